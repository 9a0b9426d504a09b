-- The sessions of a device make what their commands ask for, at each of its events.
use Rattle.std.proofs.Common.{◌≡◌, ℕ, zero, suc, ◌+◌, ◌-◌, ◌%◌, ◌<◌, ◌≤◌, ◌==◌, ◌≢◌, ◌⊎◌, inl, inr, Bool, true, false, Some, List, [], ◌∷◌, ◌++◌, refl, ap, sym, ◌∙◌, subst, arith}
use Rattle.std.specs.Prelude.{slice_get, slice_set}
use Rattle.std.specs.List.{AllByRecursion}
use Rattle.std.proofs.lemmas.Bool.{eqb-true}
use Rattle.std.proofs.lemmas.Bool.Decides.{Decides-eqb, nat_tests}
use Rattle.zw_base.proofs.Each.{all-append}
use Rattle.zw_base.specs.declared.property.By.{By}
use Rattle.zw_base.specs.declared.property.By.TheVariants.{Session, Plain, Local}
use Rattle.zw_base.specs.declared.property.Setting.{Setting}
use Rattle.zw_base.specs.declared.order.Order.{Order}
use Rattle.supervision.specs.Session.{wire_id}
use Rattle.supervision.specs.Device.{Taken, heard_of}
use Rattle.supervision.specs.declared.device_book.Heard.{Heard}
use Rattle.supervision.specs.declared.device_book.Heard.TheVariants.{New, Again, Old}
use Rattle.proof_course.specs.Parts.{numbered}
use Rattle.proof_course.specs.Sessions.{Course, Cargo, Command, Of_host, Answer, Of_node}
use Rattle.proof_course.specs.SessionLaws.{NamesOne}
use Rattle.transport_segments.specs.Kept.{Reassembly, Empty, Partial}
use Rattle.transport_segments.specs.Runs.{Agrees}
use Rattle.encap.specs.Opening.{opened_at}
use Rattle.host_orders.specs.Refusals.{IsFit, is_bad}
use Rattle.host_orders.specs.Settings.{settings}
use Rattle.host_orders.specs.Wrapping.{ends_of, message_of}
use Rattle.host_orders.specs.declared.carriage.Carriage.{Carriage}
use Rattle.device_kinds.specs.declared.change.Change.{Change}
use Rattle.device_kinds.specs.declared.verdict.Verdict.{Verdict}
use Rattle.device_kinds.specs.declared.verdict.Verdict.TheVariants.{NoSupport, Fails, Makes as MakesNow, Works}
use Rattle.device_stack.specs.declared.work.Work.{Work}
use Rattle.device_kinds.specs.Effects.{end_of}
use Rattle.device_kinds.specs.Kind.{lists, listens}
use Rattle.device_stack.specs.Effects.{work_ticks}
use Rattle.device_stack.specs.Ticking.{ticked, woken, set_by_hand}
use Rattle.device_sim.specs.State.{State}
use Rattle.device_sim.specs.Event.{DeviceEvent, Hears, Ticks, Wakes, Sets, outcome_of, device_after, device_replies}
use Rattle.device_sim.specs.Laws.{IsMade, numbers}
use Rattle.proof_once.specs.proof_messages.Ending.{HasEnded, one_at_work}
use Rattle.proof_once.specs.proof_messages.Asking.{message_in, takes_openly, verdict_on, MakesOnly, IsAtWork, IsUntouched, IsLeft, Follows}
use Rattle.proof_once.specs.proof_messages.Others.{IsOther}
use Rattle.proof_once.specs.proof_messages.Segments.{KeepsSegment, MakesWhole}
use Rattle.proof_once.specs.proof_messages.Slices.{KeepsSlices}
use Rattle.proof_course_plain.specs.Meaning.{Asked, IsMessageOf, IsSegmentOf, IsMessage, HostMeans}
use Rattle.proof_course_plain.specs.Making.{IsAskedFor, IsToTell, MakesBy, MakesAsked, KeepsNext, Makes, AllMake, NamesNext, Names, HearsNone}
use Rattle.proof_course_plain.specs.Device.{AtDevice}
use Rattle.proof_course_plain.proofs.Flights.{message_stays}
use Rattle.proof_once.proofs.NonceNumbers.{numbered-more as numbered-append}
use Rattle.proof_once.proofs.SessionMessages.{knows_supervision}
use Rattle.proof_course_plain.proofs.Segments.{Laws as SegmentLaws, IsNext, IsAnother, kept_slices, segment_heard}
use Rattle.proof_course_plain.proofs.Devices.{at_rest}
use Rattle.proof_course_plain.proofs.WorkTold.{AnswersLate, work_told}
use Rattle.proof_traffic.proofs.ChangesOutside.{get_set}

-- ---- more orders, more sessions

asked_stays : (orders more : List Asked) (commands later : List ℕ) (session : ℕ) (made : List Setting) → IsAskedFor orders commands session made → IsAskedFor (orders ++ more) (commands ++ later) session made
asked_stays orders more commands later session made is = record {
  number = is.number;
  asked = is.asked;
  carried = numbered-append commands later session is.number is.carried;
  accepted = numbered-append orders more is.number is.asked is.accepted;
  settings_are = is.settings_are;
}

change_stays : (orders more : List Asked) (commands later : List ℕ) (by : By) (made : List Setting) → MakesBy orders commands by made → MakesBy (orders ++ more) (commands ++ later) by made
change_stays orders more commands later (Session session) made is = asked_stays orders more commands later session made is
change_stays orders more commands later Plain made is = tt
change_stays orders more commands later Local made is = tt

changes_stay : (orders more : List Asked) (commands later : List ℕ) (journal : List Change) → AllByRecursion (MakesAsked orders commands) journal → AllByRecursion (MakesAsked (orders ++ more) (commands ++ later)) journal
changes_stay orders more commands later [] all = tt
changes_stay orders more commands later (change ∷ journal) all = (change_stays orders more commands later change.by change.settings all.0, changes_stay orders more commands later journal all.1)

keeps_stay : (orders more : List Asked) (commands later : List ℕ) (session : ℕ) (kept : Reassembly) → KeepsNext orders commands session kept → KeepsNext (orders ++ more) (commands ++ later) session kept
keeps_stay orders more commands later session Empty is = tt
keeps_stay orders more commands later session (Partial id places) is =
    record { message = is.message; of = message_stays orders more commands later session is.message is.of; id_is = is.id_is; agrees = is.agrees; slices = is.slices }

pub all_make_more : (node : ℕ) (orders more : List Asked) (commands later : List ℕ) (devices : List State) → AllMake node orders commands devices → AllMake node (orders ++ more) (commands ++ later) devices
all_make_more node orders more commands later devices all place device stands own =
    let m = all place device stands own in
    record {
      changes = changes_stay orders more commands later device.journal m.changes;
      work = λ some. asked_stays orders more commands later device.sessions.taken device.work.settings (m.work some);
      answer = m.answer;
      keeps = keeps_stay orders more commands later (device.sessions.taken + 1) device.reassembly m.keeps;
    }

-- ---- one event

-- nothing is kept
none_kept : (orders : List Asked) (commands : List ℕ) (session : ℕ) (kept : Reassembly) → kept ≡ Empty → KeepsNext orders commands session kept
none_kept orders commands session kept e = subst (λ (k : Reassembly). KeepsNext orders commands session k) (sym e) tt

-- the work stays
still_told : (old new : State) → new.work_left ≡ old.work_left → new.work ≡ old.work → (0 < old.work_left → IsToTell old.work_left old.work) → 0 < new.work_left → IsToTell new.work_left new.work
still_told old new left work is some =
    let was = is (subst (λ (k : ℕ). 0 < k) left some) in
    record { few = subst (λ (k : ℕ). k ≤ work_ticks) (sym left) was.few; plan = was.plan; told = ap (λ (w : Work). w.answer) work ∙ was.told }

-- the sessions and what was made stay
still_makes : (orders : List Asked) (commands : List ℕ) (old new : State) → IsUntouched old new → KeepsNext orders commands (new.sessions.taken + 1) new.reassembly → Makes orders commands old → Makes orders commands new
still_makes orders commands old new same keeps m = record {
  keeps = keeps;
  changes = subst (λ (j : List Change). AllByRecursion (MakesAsked orders commands) j) (sym same.journal) m.changes;
  work = λ some.
      subst (λ (w : Work). IsAskedFor orders commands new.sessions.taken w.settings) (sym same.work)
      (subst (λ (t : Taken). IsAskedFor orders commands t.taken old.work.settings) (sym same.sessions) (m.work (subst (λ (k : ℕ). 0 < k) same.work_left some)));
  answer = still_told old new same.work_left same.work m.answer;
}

pub untouched : (orders : List Asked) (commands : List ℕ) (old new : State) → IsLeft old new → Makes orders commands old → Makes orders commands new
untouched orders commands old new (same, kept) m =
    still_makes orders commands old new same
    (subst (λ (r : Reassembly). KeepsNext orders commands (new.sessions.taken + 1) r) (sym kept) (subst (λ (t : Taken). KeepsNext orders commands (t.taken + 1) old.reassembly) (sym same.sessions) m.keeps)) m

-- the laws of messages
pub record Laws : Type 0 where
  pub follows : (device : State) (drawn : List ℕ) (carriage : Carriage) (order : Order) (session : ℕ) → IsFit carriage.actuator order → order.end ≤ 127 → device.awake ≡ true → takes_openly device.kind ≡ true
      → Follows device (device_after device (Hears (message_of carriage order session) drawn)) (verdict_on device carriage order) (heard_of device.sessions (wire_id session))
  pub asked : (device : State) (carriage : Carriage) (order : Order) → is_bad carriage.actuator order.what ≡ false → MakesOnly (settings carriage.actuator order) (verdict_on device carriage order)
  pub left : (device : State) (payload drawn : List ℕ) → IsOther payload → lists device.kind 0x6C ≡ true → IsLeft device (device_after device (Hears payload drawn))
  pub segments : SegmentLaws
  pub opens : (carriage : Carriage) (order : Order) (session : ℕ) → IsFit carriage.actuator order → order.end ≤ 127 → opened_at (message_of carriage order session) ≡ Some (message_in carriage order session)
  pub target : (end : ℕ) → end_of (ends_of end) ≡ end

-- a device that follows the message of a session; where it begins to work on that, it is to tell the end
module _ (orders : List Asked) (commands ends : List ℕ) (device new : State) (session : ℕ) (payload : List ℕ) (ended : HasEnded device ends) (is : IsMessageOf orders commands session payload)
    (makes_only : MakesOnly (settings is.asked.carriage.actuator is.asked.order) (verdict_on device is.asked.carriage is.asked.order))
    (late : (number : ℕ) (made : List Setting) → heard_of device.sessions (wire_id session) ≡ New number → verdict_on device is.asked.carriage is.asked.order ≡ Works made → AnswersLate new.work)
    (segment : Bool) (names : NamesOne device.sessions (record { session = session; is_segment = segment })) (m : Makes orders commands device) where
  module _ (number : ℕ) (own : number ≡ session) (sessions : new.sessions.taken ≡ number) (none : device.work_left ≡ 0) (empty : new.reassembly ≡ Empty) where
    keeps_none : KeepsNext orders commands (new.sessions.taken + 1) new.reassembly
    keeps_none = none_kept orders commands (new.sessions.taken + 1) new.reassembly empty

    asked_for : (made : List Setting) → made ≡ settings is.asked.carriage.actuator is.asked.order → IsAskedFor orders commands number made
    asked_for made same = record { number = is.number; asked = is.asked; carried = subst (λ (k : ℕ). numbered commands k ≡ is.number ∷ []) (sym own) is.carried; accepted = is.accepted; settings_are = same }

    still : new.journal ≡ device.journal → new.work_left ≡ device.work_left → Makes orders commands new
    still journal left = record {
      changes = subst (λ (j : List Change). AllByRecursion (MakesAsked orders commands) j) (sym journal) m.changes;
      work = λ some. absurd (omega (arith, some, left, none));
      answer = λ some. absurd (omega (arith, some, left, none));
      keeps = keeps_none;
    }

    taken_by : (verdict : Verdict) → MakesOnly (settings is.asked.carriage.actuator is.asked.order) verdict → IsMade number device.journal new.journal device.work_left new.work_left verdict → IsAtWork device.work new.work verdict
        → ((made : List Setting) → verdict ≡ Works made → AnswersLate new.work) → Makes orders commands new
    taken_by (MakesNow made) only (changed, left) work told = record {
      changes = subst (λ (j : List Change). AllByRecursion (MakesAsked orders commands) j) (sym changed)
          (all-append (MakesAsked orders commands) device.journal (record { by = Session number; settings = made } ∷ []) m.changes (asked_for made only, tt));
      work = λ some. absurd (omega (arith, some, left, none));
      answer = λ some. absurd (omega (arith, some, left, none));
      keeps = keeps_none;
    }
    taken_by (Works made) only (journal, left) work told = record {
      changes = subst (λ (j : List Change). AllByRecursion (MakesAsked orders commands) j) (sym journal) m.changes;
      work = λ some. subst (λ (k : ℕ). IsAskedFor orders commands k new.work.settings) (sym sessions) (asked_for new.work.settings (work ∙ only));
      answer = λ some. let plan = told made refl in record { few = omega (arith, left); plan = plan.0; told = plan.1 };
      keeps = keeps_none;
    }
    taken_by Fails only (journal, left) work told = still journal left
    taken_by NoSupport only (journal, left) work told = still journal left

  heard_by : (heard : Heard) → heard_of device.sessions (wire_id session) ≡ heard → Follows device new (verdict_on device is.asked.carriage is.asked.order) heard → Makes orders commands new
  heard_by (New number) e t =
      taken_by number (names.is_new number e).0 (ap (λ (s : Taken). s.taken) t.sessions) (at_rest device ends ended t.free).0 t.empty (verdict_on device is.asked.carriage is.asked.order) makes_only t.made t.work
      (λ made works. late number made e works)
  heard_by (Again status) e same = untouched orders commands device new same m
  heard_by Old e same = untouched orders commands device new same m

  pub follows_makes : Follows device new (verdict_on device is.asked.carriage is.asked.order) (heard_of device.sessions (wire_id session)) → Makes orders commands new
  follows_makes follows = heard_by (heard_of device.sessions (wire_id session)) refl follows

message_makes : Laws → (orders : List Asked) (commands : List ℕ) (c : Course) (device : State) (session : ℕ) (payload drawn : List ℕ) → AtDevice c device → device.awake ≡ true → IsMessageOf orders commands session payload
    → (segment : Bool) → NamesOne c.device (record { session = session; is_segment = segment }) → Makes orders commands device → Makes orders commands (device_after device (Hears payload drawn))
message_makes laws orders commands c device session payload drawn at awake is segment names m =
    subst (λ (p : List ℕ). Makes orders commands (device_after device (Hears p drawn))) (sym is.text)
    (follows_makes orders commands c.ends device (device_after device (Hears (message_of is.asked.carriage is.asked.order session) drawn)) session payload at.ended is
    (laws.asked device is.asked.carriage is.asked.order is.fit.good)
    (λ number made heard works. work_told device drawn is.asked.carriage is.asked.order session number made (laws.opens is.asked.carriage is.asked.order session is.fit is.end) (laws.target is.asked.order.end)
    (laws.asked device is.asked.carriage is.asked.order is.fit.good) awake at.is_open heard works)
    segment (subst (λ (t : Taken). NamesOne t (record { session = session; is_segment = segment })) (sym at.sessions) names) m
    (laws.follows device drawn is.asked.carriage is.asked.order session is.fit is.end awake at.is_open))

-- a segment is heard
segment_makes : Laws → (orders : List Asked) (commands : List ℕ) (c : Course) (device : State) (session : ℕ) (payload drawn : List ℕ) → AtDevice c device → device.awake ≡ true → IsSegmentOf orders commands session payload
    → Names c.device (Command (record { session = session; is_segment = true })) → Makes orders commands device → Makes orders commands (device_after device (Hears payload drawn))
segment_makes laws orders commands c device session payload drawn at awake is names m =
    by (segment_heard laws.segments orders commands device session payload drawn awake at.is_open is named m.keeps)
  where
    named : NamesNext device.sessions (record { session = session; is_segment = true })
    named = subst (λ (t : Taken). NamesNext t (record { session = session; is_segment = true })) (sym at.sessions) names.1

    new : State
    new = device_after device (Hears payload drawn)

    by : IsNext laws.segments orders commands device session payload drawn awake at.is_open is named m.keeps ⊎ IsAnother laws.segments orders commands device session payload drawn awake at.is_open is named m.keeps
        → Makes orders commands (device_after device (Hears payload drawn))
    by (inr another) = untouched orders commands device (device_after device (Hears payload drawn)) another.left m
    by (inl next) = heard next.heard
      where
        session_is : session ≡ device.sessions.taken + 1
        session_is = named refl ((Decides-eqb (session % 16) ((device.sessions.taken + 1) % 16)).1 next.same)

        heard : KeepsSegment is.message (session % 16) device new (device_replies device (Hears payload drawn))
            ⊎ MakesWhole (session % 16) (device_after device (Hears is.message drawn)) (device_replies device (Hears is.message drawn)) new (device_replies device (Hears payload drawn)) → Makes orders commands new
        heard (inl (k, none)) =
            let after : new.sessions.taken + 1 ≡ session = ap (λ (t : Taken). t.taken + 1) k.untouched.sessions ∙ sym session_is in
            still_makes orders commands device new k.untouched
            (subst (λ (r : Reassembly). KeepsNext orders commands (new.sessions.taken + 1) r) (sym k.kept)
            (record {
              message = is.message;
              of = subst (λ (s : ℕ). IsMessageOf orders commands s is.message) (sym after) is.of;
              id_is = ap (λ (s : ℕ). s % 16) (sym after);
              agrees = subst (λ (r : Reassembly). Agrees is.message (session % 16) r) k.kept k.agrees;
              slices = subst KeepsSlices k.kept (next.slices (kept_slices orders commands (device.sessions.taken + 1) device.reassembly m.keeps));
            })) m
        heard (inr (whole, said)) =
            let made = message_makes laws orders commands c device session is.message drawn at awake is.of true names.0 m in
            subst (λ (d : State). Makes orders commands d) (sym whole) (record { changes = made.changes; work = made.work; answer = made.answer; keeps = tt })

command_makes : Laws → (orders : List Asked) (commands : List ℕ) (c : Course) (device : State) (segment : Bool) (session : ℕ) (payload drawn : List ℕ) → AtDevice c device → device.awake ≡ true
    → IsMessage segment orders commands session payload → Names c.device (Command (record { session = session; is_segment = segment })) → Makes orders commands device → Makes orders commands (device_after device (Hears payload drawn))
command_makes laws orders commands c device true session payload drawn at awake is names m = segment_makes laws orders commands c device session payload drawn at awake is names m
command_makes laws orders commands c device false session payload drawn at awake is names m = message_makes laws orders commands c device session payload drawn at awake is false names.0 m

-- a payload of the host is heard
pub payload_makes : Laws → (orders : List Asked) (commands : List ℕ) (c : Course) (device : State) (cargo : Cargo) (payload drawn : List ℕ) → AtDevice c device → device.awake ≡ true → HostMeans orders commands payload cargo
    → Names c.device cargo → Makes orders commands device → Makes orders commands (device_after device (Hears payload drawn))
payload_makes laws orders commands c device (Command message) payload drawn at awake is names m = command_makes laws orders commands c device message.is_segment message.session payload drawn at awake is names m
payload_makes laws orders commands c device Of_host payload drawn at awake is names m =
    untouched orders commands device (device_after device (Hears payload drawn)) (laws.left device payload drawn is (knows_supervision device.kind at.is_open)) m
payload_makes laws orders commands c device (Answer session status) payload drawn at awake is names m = absurd is
payload_makes laws orders commands c device Of_node payload drawn at awake is names m = absurd is

-- ---- a tick, a wake-up, a hand

module _ (orders : List Asked) (commands : List ℕ) (device : State) (m : Makes orders commands device) where
  tick_makes : (none last : Bool) → device.work_left == 0 ≡ none → device.work_left == 1 ≡ last → Makes orders commands (ticked device).device
  unfolding ticked
  tick_makes true last n l = untouched orders commands device (ticked device).device (record { journal = rw n refl; sessions = rw n refl; work_left = rw n refl; work = rw n refl }, rw n refl) m
  tick_makes false false n l =
      let journal : (ticked device).device.journal ≡ device.journal = rw (n, l) refl in
      let sessions : (ticked device).device.sessions ≡ device.sessions = rw (n, l) refl in
      let work : (ticked device).device.work ≡ device.work = rw (n, l) refl in
      let kept : (ticked device).device.reassembly ≡ device.reassembly = rw (n, l) refl in
      record {
        keeps = subst (λ (r : Reassembly). KeepsNext orders commands ((ticked device).device.sessions.taken + 1) r) (sym kept)
            (subst (λ (t : Taken). KeepsNext orders commands (t.taken + 1) device.reassembly) (sym sessions) m.keeps);
        changes = subst (λ (j : List Change). AllByRecursion (MakesAsked orders commands) j) (sym journal) m.changes;
        work = λ some.
            subst (λ (w : Work). IsAskedFor orders commands (ticked device).device.sessions.taken w.settings) (sym work)
            (subst (λ (t : Taken). IsAskedFor orders commands t.taken device.work.settings) (sym sessions) (m.work (grind (arith, n, nat_tests))));
        answer = λ some.
            let left : (ticked device).device.work_left ≡ device.work_left - 1 = rw (n, l) refl in
            let was = m.answer (grind (arith, n, nat_tests)) in
            let few : device.work_left ≤ 5 = was.few in
            record { few = omega (arith, left, few); plan = was.plan; told = ap (λ (w : Work). w.answer) work ∙ was.told };
      }
  tick_makes false true n l =
      let one : device.work_left ≡ 1 = eqb-true device.work_left 1 l in
      let journal : (ticked device).device.journal ≡ device.journal ++ record { by = Session device.sessions.taken; settings = device.work.settings } ∷ [] = rw (n, l) refl in
      let left : (ticked device).device.work_left ≡ 0 = rw (n, l) refl in
      let kept : (ticked device).device.reassembly ≡ device.reassembly = rw (n, l) refl in
      let taken : (ticked device).device.sessions.taken ≡ device.sessions.taken = rw (n, l) refl in
      record {
        keeps = subst (λ (r : Reassembly). KeepsNext orders commands ((ticked device).device.sessions.taken + 1) r) (sym kept)
            (subst (λ (t : ℕ). KeepsNext orders commands (t + 1) device.reassembly) (sym taken) m.keeps);
        changes = subst (λ (j : List Change). AllByRecursion (MakesAsked orders commands) j) (sym journal)
            (all-append (MakesAsked orders commands) device.journal (record { by = Session device.sessions.taken; settings = device.work.settings } ∷ []) m.changes (m.work (omega (arith, one)), tt));
        work = λ some. absurd (omega (arith, some, left));
        answer = λ some. absurd (omega (arith, some, left));
      }

  wake_makes : (b : Bool) → listens device.kind ≡ b → Makes orders commands (woken device).device
  unfolding woken
  wake_makes true e = untouched orders commands device (woken device).device (record { journal = rw e refl; sessions = rw e refl; work_left = rw e refl; work = rw e refl }, rw e refl) m
  wake_makes false e = untouched orders commands device (woken device).device (record { journal = rw e refl; sessions = rw e refl; work_left = rw e refl; work = rw e refl }, rw e refl) m

  hand_makes : (value : ℕ) → Makes orders commands (set_by_hand device value).device
  unfolding set_by_hand
  hand_makes value = record { changes = all-append (MakesAsked orders commands) device.journal _ m.changes (tt, tt); work = m.work; answer = m.answer; keeps = m.keeps }

  pub event_makes : (event : DeviceEvent) → HearsNone event → Makes orders commands (device_after device event)
  unfolding device_after outcome_of
  event_makes (Hears payload drawn) none = absurd none
  event_makes (Ticks drawn) none = tick_makes (device.work_left == 0) (device.work_left == 1) refl refl
  event_makes Wakes none = wake_makes (listens device.kind) refl
  event_makes (Sets value) none = hand_makes value

-- ---- at first

no_sessions : (journal : List Change) → numbers journal ≡ [] → AllByRecursion (MakesAsked [] []) journal
no_sessions [] none = tt
no_sessions (change ∷ journal) none = by change.by refl (λ later. no_sessions journal later)
  where
    by : (made_by : By) → change.by ≡ made_by → (numbers journal ≡ [] → AllByRecursion (MakesAsked [] []) journal) → AllByRecursion (MakesAsked [] []) (change ∷ journal)
    by (Session number) e rest = absurd (bad (subst (λ (b : By). numbers (record { by = b; settings = change.settings } ∷ journal) ≡ []) e none))
      where
        bad : number ∷ numbers journal ≡ [] → ⊥
        bad is = absurd (grind (arith, is))
    by Plain e rest = (subst (λ (b : By). MakesBy [] [] b change.settings) (sym e) tt, rest (subst (λ (b : By). numbers (record { by = b; settings = change.settings } ∷ journal) ≡ []) e none))
    by Local e rest = (subst (λ (b : By). MakesBy [] [] b change.settings) (sym e) tt, rest (subst (λ (b : By). numbers (record { by = b; settings = change.settings } ∷ journal) ≡ []) e none))

-- a device that ended no session has made nothing by one
pub first_makes : (device : State) → HasEnded device [] → device.sessions.taken ≡ 0 → device.reassembly ≡ Empty → Makes [] [] device
first_makes device is none empty =
    record {
      changes = no_sessions device.journal is.changed;
      work = λ some. absurd (busy device.work_left refl some);
      answer = λ some. absurd (busy device.work_left refl some);
      keeps = none_kept [] [] (device.sessions.taken + 1) device.reassembly empty;
    }
  where
    busy : (left : ℕ) → device.work_left ≡ left → 0 < device.work_left → ⊥
    busy zero e some = absurd (omega (arith, e, some))
    busy (suc left) e some =
        let test : device.work_left == 0 ≡ false = grind (arith, some, nat_tests) in
        let one : one_at_work device.work_left ≡ 1 = rw test refl in
        let count = is.count in absurd (omega (arith, count, one, none))

-- ---- the devices

pub get_other : (devices : List State) (place at : ℕ) (other : State) → at ≢ place → slice_get (slice_set devices place other) at ≡ slice_get devices at
get_other [] place at other apart = refl
get_other (first ∷ devices) zero zero other apart = absurd (apart refl)
get_other (first ∷ devices) zero (suc at) other apart = refl
get_other (first ∷ devices) (suc place) zero other apart = refl
get_other (first ∷ devices) (suc place) (suc at) other apart = get_other devices place at other (λ e. apart (ap suc e))

-- what holds of each device at its place holds where one is set of which it holds
pub set_holds : (Holds : ℕ → State → Type 0) (devices : List State) (place : ℕ) (device new : State) → slice_get devices place ≡ Some device → Holds place new
    → ((at : ℕ) (one : State) → slice_get devices at ≡ Some one → Holds at one) → (at : ℕ) (one : State) → slice_get (slice_set devices place new) at ≡ Some one → Holds at one
set_holds Holds devices place device new stood here all at one found = by (at == place) refl
  where
    by : (b : Bool) → (at == place) ≡ b → Holds at one
    by true e =
        let same : at ≡ place = eqb-true at place e in
        let is : Some new ≡ Some one = sym (get_set devices place device new stood) ∙ (ap (λ (k : ℕ). slice_get (slice_set devices place new) k) (sym same) ∙ found) in
        let it : new ≡ one = cc in
        subst (λ (k : ℕ). Holds k one) (sym same) (subst (λ (d : State). Holds place d) it here)
    by false e = all at one (sym (get_other devices place at new (grind (arith, e))) ∙ found)

-- one of them goes on
pub all_make_set : (node : ℕ) (orders : List Asked) (commands : List ℕ) (devices : List State) (place : ℕ) (device new : State) → slice_get devices place ≡ Some device → new.node ≡ device.node
    → (device.node ≡ node → Makes orders commands new) → AllMake node orders commands devices → AllMake node orders commands (slice_set devices place new)
all_make_set node orders commands devices place device new stood same makes all =
    set_holds (λ (at : ℕ) (one : State). one.node ≡ node → Makes orders commands one) devices place device new stood (λ own. makes (sym same ∙ own)) all
