-- The device of a node goes on as its course has it.
use Rattle.std.proofs.Common.{◌≡◌, ◌≢◌, ℕ, zero, suc, ◌+◌, ◌%◌, ◌<◌, ◌≤◌, ◌==◌, ◌⊎◌, inl, inr, Bool, true, false, ◌&&◌, not, if◌then◌else◌, Option, Some, None, List, [], ◌∷◌, ◌++◌, length, refl, ap, sym, ◌∙◌, subst, append-nil, arith}
use Rattle.std.specs.List.{AllByRecursion}
use Rattle.std.proofs.lemmas.List.{length-append}
use Rattle.std.proofs.lemmas.Bool.{eqb-true}
use Rattle.std.proofs.lemmas.Bool.Decides.{Decides-eqb, nat_tests}
use Rattle.zw_base.specs.declared.order.Order.{Order}
use Rattle.supervision.specs.Session.{wire_id}
use Rattle.supervision.specs.Device.{Taken, is_new, heard_of, after_get, finished}
use Rattle.supervision.specs.declared.session.TheConstants.{WORKING, SUCCESS}
use Rattle.proof_course.specs.Parts.{numbered}
use Rattle.proof_course.specs.Sessions.{Course, Message, Cargo, Command, Of_host, Answer, Of_node, first_course, hears, is_segment_of_next, after_message, kept_after, MayAll, after_all}
use Rattle.transport_segments.specs.Kept.{Reassembly}
use Rattle.transport_segments.specs.Runs.{IsPart}
use Rattle.transport_segments.specs.Taking.{is_segment}
use Rattle.encap.specs.Opening.{opened_at}
use Rattle.host_orders.specs.Refusals.{IsFit}
use Rattle.host_orders.specs.Wrapping.{message_of, supervised_of}
use Rattle.host_orders.specs.declared.carriage.Carriage.{Carriage}
use Rattle.device_kinds.specs.declared.kind.Kind.{Kind}
use Rattle.device_kinds.specs.declared.kind.Kind.TheVariants.{Relay, Switch, Dimmer, Lock, Sensor, Thermostat, Strip, Configurable}
use Rattle.device_kinds.specs.declared.verdict.Verdict.{Verdict}
use Rattle.device_kinds.specs.Kind.{lists, listens}
use Rattle.device_stack.specs.Hearing.{hears_openly, hears_by, active, hears as device_hears}
use Rattle.device_stack.specs.Ticking.{ticked, woken, set_by_hand}
use Rattle.device_stack.specs.State.{Outcome}
use Rattle.device_sim.specs.State.{State, fresh}
use Rattle.device_sim.specs.Event.{DeviceEvent, Hears, Ticks, Wakes, Sets, outcome_of, device_after, device_replies}
use Rattle.proof_traffic.specs.proof_device.GoingOn.{IsSame}
use Rattle.proof_once.specs.proof_messages.Ending.{HasEnded}
use Rattle.proof_once.proofs.DeviceEnds.{numbered_last, one_none, one_some}
use Rattle.proof_once.specs.proof_messages.Asking.{message_in, takes_openly, verdict_on, IsLeft, Follows}
use Rattle.proof_once.specs.proof_messages.Landing.{HasLanded, IsOf, LandsAs}
use Rattle.proof_once.specs.proof_messages.Others.{IsOther}
use Rattle.proof_once.specs.proof_messages.Reporting.{TellsOwn, TellsTrue, CanSay}
use Rattle.proof_once.specs.proof_messages.Segments.{KeepsPart, IsWhole, KeepsSegment, MakesWhole}
use Rattle.proof_course_plain.specs.Meaning.{Asked, IsMessageOf, IsSegmentOf, IsMessage, HostMeans}
use Rattle.proof_course_plain.specs.Making.{KeepsNext, Makes, NamesNext, Names}
use Rattle.proof_course_plain.specs.Device.{AtDevice, finishes, Says, GoesAs, HearsAs}
use Rattle.proof_once.proofs.SessionMessages.{awake_after, knows_supervision, openly_by}
use Rattle.proof_course_plain.proofs.Segments.{Laws as SegmentLaws, message_whole, part_of, IsNext, IsAnother, segment_heard}
use Rattle.proof_course_plain.proofs.DevicePayloads.{IsBare, AllOwnTaken, in_segments_bare, none_own, openly_bare, AllTaken, get_taken, later, openly_same, never_own, all_said, all_taken, weaken_taken, ticks_bare, wakes_bare, wakes_same, sets_bare_all, sets_same}

-- ---- statuses that are added

pub no_more : (ends more : List ℕ) → length (ends ++ more) ≡ length ends → more ≡ []
no_more ends [] e = refl
no_more ends (x ∷ more) e = let long = length-append ends (x ∷ more) in absurd (omega (arith, e, long))

one_more : (ends more : List ℕ) (at status : ℕ) → length (ends ++ more) ≡ at → at ≡ suc (length ends) → numbered (ends ++ more) at ≡ status ∷ [] → more ≡ status ∷ []
one_more ends [] at status e is n = let long = length-append ends [] in absurd (omega (arith, e, is, long))
one_more ends (x ∷ []) at status e is n = sym (numbered_last ends x) ∙ (ap (numbered (ends ++ x ∷ [])) (sym is) ∙ n)
one_more ends (x ∷ y ∷ more) at status e is n = let long = length-append ends (x ∷ y ∷ more) in absurd (omega (arith, e, is, long))

-- how many statuses there are
pub at_work : (device : State) (ends : List ℕ) → HasEnded device ends → device.sessions.status ≡ WORKING → length ends + 1 ≡ device.sessions.taken
at_work device ends is busy = by device.work_left refl
  where
    by : (left : ℕ) → device.work_left ≡ left → length ends + 1 ≡ device.sessions.taken
    by zero e = absurd (is.at_rest e busy)
    by (suc left) e = let count = is.count in let one = one_some device.work_left (omega (arith, e)) in omega (arith, count, one)

pub at_rest : (device : State) (ends : List ℕ) → HasEnded device ends → device.sessions.status ≢ WORKING → (device.work_left ≡ 0) × (length ends ≡ device.sessions.taken)
at_rest device ends is free = by device.work_left refl
  where
    by : (left : ℕ) → device.work_left ≡ left → (device.work_left ≡ 0) × (length ends ≡ device.sessions.taken)
    by zero e = (e, let count = is.count in let none = one_none device.work_left e in omega (arith, count, none))
    by (suc left) e = absurd (free (is.at_work (omega (arith, e))))

-- ---- what an event makes of the sessions, and what the course makes of them

-- a message takes no session, or the next one
abbrev pub Took : Taken → Taken → Type 0
Took old new = (new ≡ old) ⊎ ((old.status ≢ WORKING) × (new ≡ record { taken = old.taken + 1; status = WORKING }))

-- the commands of the last session may have come to their end
abbrev pub Ended : Taken → Taken → Type 0
Ended old new = (new ≡ old) ⊎ ((status : ℕ) × ((old.status ≡ WORKING) × ((status ≢ WORKING) × (new ≡ finished old status))))

-- the statuses that are added are those of the end, where there is one
pub record Adds (between : Taken) (ends : List ℕ) (new : State) : Type 0 where
  pub final : Option ℕ
  pub may : (c : Course) → c.device ≡ between → MayAll c (finishes final)
  pub device : (c : Course) → c.device ≡ between → new.sessions ≡ (after_all c (finishes final)).device
  pub ended : (c : Course) → c.ends ≡ ends → HasEnded new (after_all c (finishes final)).ends

length_taken : (old between : Taken) (ends : List ℕ) → Took old between → (old.status ≡ WORKING → length ends + 1 ≡ old.taken) → (old.status ≢ WORKING → length ends ≡ old.taken)
    → between.status ≡ WORKING → length ends + 1 ≡ between.taken
length_taken old between ends (inl same) busy free is = subst (λ (t : Taken). length ends + 1 ≡ t.taken) (sym same) (busy (ap (λ (t : Taken). t.status) (sym same) ∙ is))
length_taken old between ends (inr (idle, next)) busy free is = subst (λ (t : Taken). length ends + 1 ≡ t.taken) (sym next) (let count = free idle in omega (arith, count))

length_same : (old between : Taken) (ends : List ℕ) → Took old between → (old.status ≢ WORKING → length ends ≡ old.taken) → between.status ≢ WORKING → length ends ≡ between.taken
length_same old between ends (inl same) free is = subst (λ (t : Taken). length ends ≡ t.taken) (sym same) (free (λ e. is (ap (λ (t : Taken). t.status) same ∙ e)))
length_same old between ends (inr (idle, next)) free is = absurd (is (ap (λ (t : Taken). t.status) next))

pub adds : (old new : State) (between : Taken) (ends more : List ℕ) → HasEnded old ends → HasEnded new (ends ++ more) → Took old.sessions between → Ended between new.sessions → Adds between ends new
adds old new between ends more was is took (inl same) =
    let none : more ≡ [] = no_more ends more (by (new.sessions.status == WORKING) refl) in
    record {
      final = None;
      may = λ c e. tt;
      device = λ c e. same ∙ sym e;
      ended = λ c e. subst (λ l. HasEnded new l) (ap (λ l. ends ++ l) none ∙ (append-nil ends ∙ sym e)) is;
    }
  where
    taken_same : new.sessions.taken ≡ between.taken
    taken_same = ap (λ (t : Taken). t.taken) same

    by : (b : Bool) → new.sessions.status == WORKING ≡ b → length (ends ++ more) ≡ length ends
    by true e =
        let busy : new.sessions.status ≡ WORKING = eqb-true new.sessions.status WORKING e in
        let many = at_work new (ends ++ more) is busy in
        let few = length_taken old.sessions between ends took (at_work old ends was) (λ free. (at_rest old ends was free).1) (ap (λ (t : Taken). t.status) (sym same) ∙ busy) in
        let taken = taken_same in omega (arith, many, few, taken)
    by false e =
        let free : new.sessions.status ≢ WORKING = grind (arith, e, nat_tests) in
        let many = (at_rest new (ends ++ more) is free).1 in
        let few = length_same old.sessions between ends took (λ free. (at_rest old ends was free).1) (λ b. free (ap (λ (t : Taken). t.status) same ∙ b)) in
        let taken = taken_same in omega (arith, many, few, taken)
adds old new between ends more was is took (inr (status, (busy, (final, done)))) =
    let taken : new.sessions.taken ≡ between.taken = ap (λ (t : Taken). t.taken) done in
    let said : new.sessions.status ≡ status = ap (λ (t : Taken). t.status) done in
    let free : new.sessions.status ≢ WORKING = λ e. final (sym said ∙ e) in
    let rest = at_rest new (ends ++ more) is free in
    let few = length_taken old.sessions between ends took (at_work old ends was) (λ idle. (at_rest old ends was idle).1) busy in
    let some : 0 < new.sessions.taken = omega (arith, few, taken) in
    let one : more ≡ new.sessions.status ∷ [] = one_more ends more new.sessions.taken new.sessions.status rest.1 (omega (arith, few, taken)) (is.told rest.0 some) in
    record {
      final = Some status;
      may = λ c e. ((ap (λ (t : Taken). t.status) e ∙ busy, final), tt);
      device = λ c e. done ∙ ap (λ (t : Taken). finished t status) (sym e);
      ended = λ c e. subst (λ l. HasEnded new l) (ap (λ l. ends ++ l) (one ∙ ap (λ s. s ∷ []) said) ∙ ap (λ l. l ++ status ∷ []) (sym e)) is;
    }

-- ---- one event

-- the course may go on by itself before, in what it knows of the device: it knows the same of statuses, and where segments are kept, of which session
event_goes : (c : Course) (device : State) (event : DeviceEvent) (ends more : List ℕ) → HasEnded device ends → c.ends ≡ ends → IsOf (device_after device event).reassembly c.kept
    → HasEnded (device_after device event) (ends ++ more) → Took device.sessions c.device → Ended c.device (device_after device event).sessions
    → CanSay (device_after device event) → takes_openly (device_after device event).kind ≡ true
    → AllByRecursion (Says (device_after device event).sessions) (device_replies device event) → GoesAs c device event
event_goes c device event ends more was ends_are kept is took ended can plain says =
    let a = adds device (device_after device event) c.device ends more was is took ended in
    record {
      final = a.final;
      may = a.may c refl;
      at = record {
        sessions = a.device c refl;
        kept = still_kept a.final;
        ended = a.ended c ends_are;
        can = can;
        is_open = plain;
      };
      says = says;
    }
  where
    still_kept : (final : Option ℕ) → IsOf (device_after device event).reassembly (after_all c (finishes final)).kept
    still_kept None = kept
    still_kept (Some status) = kept

-- ---- the laws of devices and of what they say

pub record Laws : Type 0 where
  pub fresh_ended : (node : ℕ) (kind : Kind) (key : List ℕ) → HasEnded (fresh node kind key) []
  pub ended : (device : State) (event : DeviceEvent) (finals : List ℕ) → HasEnded device finals → (more : List ℕ) × HasEnded (device_after device event) (finals ++ more)
  pub follows : (device : State) (drawn : List ℕ) (carriage : Carriage) (order : Order) (session : ℕ) → IsFit carriage.actuator order → order.end ≤ 127 → device.awake ≡ true → takes_openly device.kind ≡ true
      → Follows device (device_after device (Hears (message_of carriage order session) drawn)) (verdict_on device carriage order) (heard_of device.sessions (wire_id session))
  pub opens : (carriage : Carriage) (order : Order) (session : ℕ) → IsFit carriage.actuator order → order.end ≤ 127 → opened_at (message_of carriage order session) ≡ Some (message_in carriage order session)
  pub lands : (old new : State) (verdict : Verdict) (session : ℕ) → Follows old new verdict (heard_of old.sessions (wire_id session)) → LandsAs old new (record { session = session; is_segment = false }) false
  pub left : (device : State) (payload drawn : List ℕ) → IsOther payload → lists device.kind 0x6C ≡ true → IsLeft device (device_after device (Hears payload drawn))
  pub replies : (device : State) (event : DeviceEvent) → CanSay device → AllByRecursion (TellsTrue (device_after device event)) (device_replies device event)
  pub fresh_can : (node : ℕ) (kind : Kind) (key : List ℕ) → CanSay (fresh node kind key)
  pub can : (device : State) (event : DeviceEvent) → CanSay device → CanSay (device_after device event)
  pub same : (device : State) (event : DeviceEvent) → IsSame device (device_after device event)
  pub part_lands : (old new : State) (message : List ℕ) (session : ℕ) → session % 16 ≡ (old.sessions.taken + 1) % 16 → KeepsPart message (session % 16) old new → LandsAs old new (record { session = session; is_segment = true }) false
  pub whole_lands : (old heard new : State) (verdict : Verdict) (session : ℕ) → session % 16 ≡ (old.sessions.taken + 1) % 16 → Follows old heard verdict (heard_of old.sessions (wire_id session)) → IsWhole heard new
      → LandsAs old new (record { session = session; is_segment = true }) true
  pub segments : SegmentLaws

pub fresh_at : Laws → (node : ℕ) (kind : Kind) (key : List ℕ) → takes_openly kind ≡ true → AtDevice first_course (fresh node kind key)
fresh_at laws node kind key plain = record {
  sessions = refl;
  kept = tt;
  ended = laws.fresh_ended node kind key;
  can = laws.fresh_can node kind key;
  is_open = plain;
}

-- ---- a payload is heard

hears_kind : (kind : Kind) (device : State) (payload drawn : List ℕ) → takes_openly kind ≡ true → is_segment payload ≡ false → (hears_by kind device payload drawn).replies ≡ (hears_openly device payload).replies
hears_kind kind device payload drawn plain whole = ap (λ (o : Outcome). o.replies) (openly_by kind device payload drawn plain whole)

replies_awake : (device : State) (payload drawn : List ℕ) → device.awake ≡ true → device_replies device (Hears payload drawn) ≡ (hears_by device.kind (active device) payload drawn).replies
unfolding device_replies outcome_of device_hears
replies_awake device payload drawn e = rw e refl

awake_replies : (device : State) (payload drawn : List ℕ) → device.awake ≡ true → takes_openly device.kind ≡ true → is_segment payload ≡ false
    → device_replies device (Hears payload drawn) ≡ (hears_openly (active device) payload).replies
awake_replies device payload drawn awake plain whole = replies_awake device payload drawn awake ∙ hears_kind device.kind (active device) payload drawn plain whole

awake_device : (device : State) (payload drawn : List ℕ) → device.awake ≡ true → takes_openly device.kind ≡ true → is_segment payload ≡ false
    → device_after device (Hears payload drawn) ≡ (hears_openly (active device) payload).device
awake_device device payload drawn awake plain whole = awake_after device payload drawn awake ∙ ap (λ (o : Outcome). o.device) (openly_by device.kind (active device) payload drawn plain whole)

-- a message is new, or takes nothing
pub took_get : (t : Taken) (id : ℕ) → Took t (after_get t id)
took_get t id = by (is_new t id) refl
  where
    idle : (b : Bool) → t.status == WORKING ≡ b → ((id == wire_id (t.taken + 1)) && not b) ≡ true → t.status ≢ WORKING
    idle true same both = absurd (grind (arith, both))
    idle false same both = grind (arith, same, nat_tests)

    by : (b : Bool) → is_new t id ≡ b → Took t (if b then record { taken = t.taken + 1; status = WORKING } else t)
    by false e = inl refl
    by true e = inr (idle (t.status == WORKING) refl e, refl)

module _ (laws : Laws) (orders : List Asked) (commands : List ℕ) (c : Course) (device : State) (since session : ℕ) (payload drawn : List ℕ) (at : AtDevice c device) (awake : device.awake ≡ true) (is : IsMessageOf orders commands session payload) where
  abbrev message : Message
  message = record { session = session; is_segment = false }

  abbrev text : List ℕ
  text = message_of is.asked.carriage is.asked.order session

  abbrev new : State
  new = device_after device (Hears text drawn)

  lands : LandsAs device new message false
  lands = laws.lands device new (verdict_on device is.asked.carriage is.asked.order) session (laws.follows device drawn is.asked.carriage is.asked.order session is.fit is.end awake at.is_open)

  kept : IsOf new.reassembly (kept_after c.device c.kept message false)
  kept = subst (λ (t : Taken). IsOf new.reassembly (kept_after t c.kept message false)) at.sessions (lands.kept c.kept at.kept)

  whole : is_segment text ≡ false
  whole = message_whole is.asked.carriage is.asked.order session

  opened : opened_at text ≡ Some (message_in is.asked.carriage is.asked.order session)
  opened = laws.opens is.asked.carriage is.asked.order session is.fit is.end

  taken : AllByRecursion (λ (reply : List ℕ). TellsOwn new reply → 0 < new.sessions.taken) (device_replies device (Hears text drawn))
  taken =
      subst (λ (rs : List (List ℕ)). AllByRecursion (λ (reply : List ℕ). TellsOwn new reply → 0 < new.sessions.taken) rs) (sym (awake_replies device text drawn awake at.is_open whole))
      (weaken_taken new (hears_openly (active device) text).replies
      (subst (λ (d : State). AllTaken d (hears_openly (active device) text).replies) (sym (awake_device device text drawn awake at.is_open whole))
      (get_taken (active device) text (message_in is.asked.carriage is.asked.order session) (supervised_of is.asked.carriage.actuator is.asked.order session) opened refl)))

  bare : AllByRecursion IsBare (device_replies device (Hears text drawn))
  bare = subst (λ (rs : List (List ℕ)). AllByRecursion IsBare rs) (sym (awake_replies device text drawn awake at.is_open whole)) (openly_bare (active device) text)

  message_lands : GoesAs (hears c since (Command message) false) device (Hears text drawn)
  message_lands =
      let more = laws.ended device (Hears text drawn) c.ends at.ended in
      event_goes (hears c since (Command message) false) device (Hears text drawn) c.ends more.0 at.ended refl kept more.1
      (subst (λ (t : Taken). Took t (after_message c.device message false)) (sym at.sessions) (took_get c.device (wire_id session)))
      (subst (λ (t : Taken). HasLanded t message false new.sessions) at.sessions lands.sessions)
      (laws.can device (Hears text drawn) at.can) (ap takes_openly (laws.same device (Hears text drawn)).kind ∙ at.is_open)
      (all_said new (device_replies device (Hears text drawn)) (laws.can device (Hears text drawn) at.can) (laws.replies device (Hears text drawn) at.can) taken bare)

  pub message_heard : GoesAs (hears c since (Command message) false) device (Hears payload drawn)
  message_heard = subst (λ (p : List ℕ). GoesAs (hears c since (Command message) false) device (Hears p drawn)) (sym is.text) message_lands

  pub message_taken : AllOwnTaken (device_after device (Hears payload drawn)) (device_replies device (Hears payload drawn))
  message_taken = subst (λ (p : List ℕ). AllOwnTaken (device_after device (Hears p drawn)) (device_replies device (Hears p drawn))) (sym is.text) taken

-- ---- an event that no session hears of

-- nothing is taken and nothing ends, and what is said is no report
quiet : Laws → (c : Course) (device : State) (event : DeviceEvent) → AtDevice c device → (device_after device event).sessions ≡ device.sessions → (device_after device event).reassembly ≡ device.reassembly
    → AllByRecursion (λ (reply : List ℕ). TellsOwn (device_after device event) reply → 0 < (device_after device event).sessions.taken) (device_replies device event)
    → AllByRecursion IsBare (device_replies device event) → GoesAs c device event
quiet laws c device event at sessions kept taken bare =
    let more = laws.ended device event c.ends at.ended in
    event_goes c device event c.ends more.0 at.ended refl (subst (λ (r : Reassembly). IsOf r c.kept) (sym kept) at.kept) more.1 (inl (sym at.sessions)) (inl (sessions ∙ at.sessions))
    (laws.can device event at.can) (ap takes_openly (laws.same device event).kind ∙ at.is_open)
    (all_said (device_after device event) (device_replies device event) (laws.can device event at.can) (laws.replies device event at.can) taken bare)

-- one session more can be said as well
later_can : (device : State) → CanSay device → CanSay (later device)
later_can device can = record { status = can.status; answer = can.answer }

-- where the same is said with one session more, no report is
said_alike : Laws → (device : State) (event : DeviceEvent) → CanSay device → (device_after device event).sessions ≡ device.sessions → (device_after (later device) event).sessions ≡ (later device).sessions
    → device_replies (later device) event ≡ device_replies device event
    → AllByRecursion (λ (reply : List ℕ). TellsOwn (device_after device event) reply → 0 < (device_after device event).sessions.taken) (device_replies device event)
said_alike laws device event can sessions more replies =
    never_own (device_after device event) (device_after (later device) event) (device_replies device event)
    (ap (λ (t : Taken). t.taken) more ∙ ap (λ (t : Taken). t.taken + 1) (sym sessions))
    (subst (λ (rs : List (List ℕ)). AllByRecursion (TellsTrue (device_after (later device) event)) rs) replies (laws.replies (later device) event (later_can device can)))

pub other_heard : Laws → (c : Course) (device : State) (payload drawn : List ℕ) → AtDevice c device → device.awake ≡ true → IsOther payload → GoesAs c device (Hears payload drawn)
other_heard laws c device payload drawn at awake other =
    let left = laws.left device payload drawn other (knows_supervision device.kind at.is_open) in
    let after : IsLeft (later device) (device_after (later device) (Hears payload drawn)) = laws.left (later device) payload drawn other (knows_supervision device.kind at.is_open) in
    quiet laws c device (Hears payload drawn) at left.0.sessions left.1
    (said_alike laws device (Hears payload drawn) at.can left.0.sessions after.0.sessions
    (awake_replies (later device) payload drawn awake at.is_open other.1 ∙ (openly_same (active device) payload other.0 ∙ sym (awake_replies device payload drawn awake at.is_open other.1))))
    (subst (λ (rs : List (List ℕ)). AllByRecursion IsBare rs) (sym (awake_replies device payload drawn awake at.is_open other.1)) (openly_bare (active device) payload))

-- ---- a segment

-- where a device keeps no segments, it hears one as what is no message of a session
openly_kind : (kind : Kind) (device : State) (payload drawn : List ℕ) → kind ≢ Configurable → takes_openly kind ≡ true → hears_by kind device payload drawn ≡ hears_openly device payload
openly_kind Switch device payload drawn not plain = refl
openly_kind Dimmer device payload drawn not plain = refl
openly_kind Sensor device payload drawn not plain = refl
openly_kind Thermostat device payload drawn not plain = refl
openly_kind Strip device payload drawn not plain = refl
openly_kind Configurable device payload drawn not plain = absurd (not refl)
openly_kind Relay device payload drawn not plain = cc
openly_kind Lock device payload drawn not plain = cc

bare_kind : (kind : Kind) (device : State) (payload drawn : List ℕ) → takes_openly kind ≡ true → AllByRecursion IsBare (hears_by kind device payload drawn).replies
bare_kind Switch device payload drawn plain = openly_bare device payload
bare_kind Dimmer device payload drawn plain = openly_bare device payload
bare_kind Sensor device payload drawn plain = openly_bare device payload
bare_kind Thermostat device payload drawn plain = openly_bare device payload
bare_kind Strip device payload drawn plain = openly_bare device payload
bare_kind Configurable device payload drawn plain = in_segments_bare device payload
bare_kind Relay device payload drawn plain = cc
bare_kind Lock device payload drawn plain = cc

module _ (laws : Laws) (orders : List Asked) (commands : List ℕ) (c : Course) (device : State) (since session : ℕ) (payload drawn : List ℕ) (at : AtDevice c device) (awake : device.awake ≡ true)
    (is : IsSegmentOf orders commands session payload) (names : Names c.device (Command (record { session = session; is_segment = true }))) (keeps : KeepsNext orders commands (device.sessions.taken + 1) device.reassembly) where
  abbrev segment : Message
  segment = record { session = session; is_segment = true }

  abbrev event : DeviceEvent
  event = Hears payload drawn

  abbrev later_device : State
  later_device = device_after device event

  named : NamesNext device.sessions segment
  named = subst (λ (t : Taken). NamesNext t segment) (sym at.sessions) names.1

  can : CanSay later_device
  can = laws.can device event at.can

  still_open : takes_openly later_device.kind ≡ true
  still_open = ap takes_openly (laws.same device event).kind ∙ at.is_open

  segment_bare : AllByRecursion IsBare (device_replies device event)
  segment_bare = subst (λ (rs : List (List ℕ)). AllByRecursion IsBare rs) (sym (replies_awake device payload drawn awake)) (bare_kind device.kind (active device) payload drawn at.is_open)

  says : AllOwnTaken later_device (device_replies device event) → AllByRecursion (Says later_device.sessions) (device_replies device event)
  says taken = all_said later_device (device_replies device event) can (laws.replies device event at.can) taken segment_bare

  -- as a course has it
  lands_as : (is_whole : Bool) → LandsAs device later_device segment is_whole → Took device.sessions (after_message c.device segment is_whole) → AllOwnTaken later_device (device_replies device event)
      → GoesAs (hears c since (Command segment) is_whole) device event
  lands_as is_whole lands took taken =
      let more = laws.ended device event c.ends at.ended in
      event_goes (hears c since (Command segment) is_whole) device event c.ends more.0 at.ended refl
      (subst (λ (t : Taken). IsOf later_device.reassembly (kept_after t c.kept segment is_whole)) at.sessions (lands.kept c.kept at.kept))
      more.1 took (subst (λ (t : Taken). HasLanded t segment is_whole later_device.sessions) at.sessions lands.sessions) can still_open (says taken)

  -- it is kept
  part_heard : session % 16 ≡ (device.sessions.taken + 1) % 16 → KeepsSegment is.message (session % 16) device later_device (device_replies device event) → GoesAs (hears c since (Command segment) false) device event
  part_heard same (k, none) =
      lands_as false (laws.part_lands device later_device is.message session same k) (inl (sym at.sessions)) (none_own later_device (device_replies device event) none)

  -- it makes the message whole
  whole_heard : session % 16 ≡ (device.sessions.taken + 1) % 16
      → MakesWhole (session % 16) (device_after device (Hears is.message drawn)) (device_replies device (Hears is.message drawn)) later_device (device_replies device event) → GoesAs (hears c since (Command segment) true) device event
  whole_heard same (whole, said) =
      let follows : Follows device (device_after device (Hears is.message drawn)) (verdict_on device is.of.asked.carriage is.of.asked.order) (heard_of device.sessions (wire_id session)) =
      subst (λ (p : List ℕ). Follows device (device_after device (Hears p drawn)) (verdict_on device is.of.asked.carriage is.of.asked.order) (heard_of device.sessions (wire_id session))) (sym is.of.text)
      (laws.follows device drawn is.of.asked.carriage is.of.asked.order session is.of.fit is.of.end awake at.is_open) in
      let next : is_segment_of_next c.device session ≡ true =
      (Decides-eqb (session % 16) ((c.device.taken + 1) % 16)).1 (subst (λ (t : Taken). session % 16 ≡ (t.taken + 1) % 16) at.sessions same) in
      let taken : after_message c.device segment true ≡ after_get c.device (wire_id session) = ap (λ (b : Bool). if true && b then after_get c.device (wire_id session) else c.device) next in
      lands_as true (laws.whole_lands device (device_after device (Hears is.message drawn)) later_device (verdict_on device is.of.asked.carriage is.of.asked.order) session same follows whole)
      (subst (λ (t : Taken). Took device.sessions t) (sym taken) (subst (λ (t : Taken). Took t (after_get c.device (wire_id session))) (sym at.sessions) (took_get c.device (wire_id session))))
      (subst (λ (rs : List (List ℕ)). AllOwnTaken later_device rs) (sym said) (
        λ own. absurd (laws.segments.acknowledged (session % 16) _ own).0,
        subst (λ (d : State). AllOwnTaken d (device_replies device (Hears is.message drawn))) (sym whole) (message_taken laws orders commands c device since session is.message drawn at awake is.of),
      ))

  -- it is nothing to the device
  another_heard : IsLeft device later_device → (device.kind ≢ Configurable) ⊎ ((0 < device.sessions.taken) ⊎ (device_replies device event ≡ [])) → GoesAs c device event
  another_heard left which = quiet laws c device event at left.0.sessions left.1 (taken which) segment_bare
    where
      openly : device.kind ≢ Configurable → (sessions : Taken) → device_replies (record device { sessions = sessions }) event ≡ (hears_openly (active (record device { sessions = sessions })) payload).replies
      openly not sessions =
          replies_awake (record device { sessions = sessions }) payload drawn awake
          ∙ ap (λ (o : Outcome). o.replies) (openly_kind device.kind (active (record device { sessions = sessions })) payload drawn not at.is_open)

      part : IsPart is.message (session % 16) payload
      part = part_of laws.segments orders commands session payload is

      taken : (device.kind ≢ Configurable) ⊎ ((0 < device.sessions.taken) ⊎ (device_replies device event ≡ [])) → AllOwnTaken later_device (device_replies device event)
      taken (inr (inl some)) = all_taken later_device (device_replies device event) (subst (λ (t : Taken). 0 < t.taken) (sym left.0.sessions) some)
      taken (inr (inr none)) = subst (λ (rs : List (List ℕ)). AllOwnTaken later_device rs) (sym none) tt
      taken (inl not) =
          let after : IsLeft (later device) (device_after (later device) event) = laws.segments.elsewhere (later device) is.message payload drawn session not (knows_supervision device.kind at.is_open) part in
          said_alike laws device event at.can left.0.sessions after.0.sessions
          (openly not (later device).sessions ∙ (openly_same (active device) payload (laws.segments.no_get is.message payload (session % 16) part) ∙ sym (openly not device.sessions)))

  pub segment_lands : HearsAs c device since (Command segment) event
  segment_lands = by (segment_heard laws.segments orders commands device session payload drawn awake at.is_open is named keeps)
    where
      of_next : session % 16 ≡ (device.sessions.taken + 1) % 16 → KeepsSegment is.message (session % 16) device later_device (device_replies device event)
          ⊎ MakesWhole (session % 16) (device_after device (Hears is.message drawn)) (device_replies device (Hears is.message drawn)) later_device (device_replies device event) → HearsAs c device since (Command segment) event
      of_next same (inl kept) = inl (false, part_heard same kept)
      of_next same (inr whole) = inl (true, whole_heard same whole)

      by : IsNext laws.segments orders commands device session payload drawn awake at.is_open is named keeps ⊎ IsAnother laws.segments orders commands device session payload drawn awake at.is_open is named keeps
          → HearsAs c device since (Command segment) event
      by (inl next) = of_next next.same next.heard
      by (inr another) = inr (refl, another_heard another.left another.says)

-- ---- any payload

command_heard : Laws → (orders : List Asked) (commands : List ℕ) (c : Course) (device : State) (since : ℕ) (segment : Bool) (session : ℕ) (payload drawn : List ℕ) → AtDevice c device → device.awake ≡ true
    → IsMessage segment orders commands session payload → Names c.device (Command (record { session = session; is_segment = segment })) → Makes orders commands device
    → HearsAs c device since (Command (record { session = session; is_segment = segment })) (Hears payload drawn)
command_heard laws orders commands c device since true session payload drawn at awake is names m = segment_lands laws orders commands c device since session payload drawn at awake is names m.keeps
command_heard laws orders commands c device since false session payload drawn at awake is names m = inl (false, message_heard laws orders commands c device since session payload drawn at awake is)

pub payload_heard : Laws → (orders : List Asked) (commands : List ℕ) (c : Course) (device : State) (since : ℕ) (cargo : Cargo) (payload drawn : List ℕ) → AtDevice c device → device.awake ≡ true
    → HostMeans orders commands payload cargo → Names c.device cargo → Makes orders commands device → HearsAs c device since cargo (Hears payload drawn)
payload_heard laws orders commands c device since (Command message) payload drawn at awake is names m = command_heard laws orders commands c device since message.is_segment message.session payload drawn at awake is names m
payload_heard laws orders commands c device since Of_host payload drawn at awake is names m = inl (false, other_heard laws c device payload drawn at awake is)
payload_heard laws orders commands c device since (Answer session status) payload drawn at awake is names m = absurd is
payload_heard laws orders commands c device since Of_node payload drawn at awake is names m = absurd is

-- ---- a tick

-- a tick that ends no work
pub record TicksQuietly (device : State) : Type 0 where
  pub sessions : (ticked device).device.sessions ≡ device.sessions
  pub kept : (ticked device).device.reassembly ≡ device.reassembly
  pub replies : (ticked device).replies ≡ []

pub ticks_idle : (device : State) → device.work_left == 0 ≡ true → TicksQuietly device
unfolding ticked
ticks_idle device n = record { sessions = rw n refl; kept = rw n refl; replies = rw n refl }

pub ticks_on : (device : State) → device.work_left == 0 ≡ false → device.work_left == 1 ≡ false → TicksQuietly device
unfolding ticked
ticks_on device n l = record { sessions = rw (n, l) refl; kept = rw (n, l) refl; replies = rw (n, l) refl }

pub ticks_last : (device : State) → device.work_left == 0 ≡ false → device.work_left == 1 ≡ true
    → ((ticked device).device.sessions ≡ finished device.sessions SUCCESS) × ((ticked device).device.reassembly ≡ device.reassembly)
unfolding ticked
ticks_last device n l = (rw (n, l) refl, rw (n, l) refl)

quiet_tick : Laws → (c : Course) (device : State) (drawn : List ℕ) → AtDevice c device → TicksQuietly device → GoesAs c device (Ticks drawn)
unfolding device_after device_replies outcome_of
quiet_tick laws c device drawn at is =
    quiet laws c device (Ticks drawn) at is.sessions is.kept
    (subst (λ (rs : List (List ℕ)). AllByRecursion (λ (reply : List ℕ). TellsOwn (ticked device).device reply → 0 < (ticked device).device.sessions.taken) rs) (sym is.replies) tt) (ticks_bare device)

last_tick : Laws → (c : Course) (device : State) (drawn : List ℕ) → AtDevice c device → device.work_left == 0 ≡ false → device.work_left == 1 ≡ true → GoesAs c device (Ticks drawn)
unfolding device_after device_replies outcome_of
last_tick laws c device drawn at n l =
    let one : device.work_left ≡ 1 = eqb-true device.work_left 1 l in
    let busy : device.sessions.status ≡ WORKING = at.ended.at_work (omega (arith, one)) in
    let count = at_work device c.ends at.ended busy in
    let both = ticks_last device n l in
    let sessions : (ticked device).device.sessions ≡ finished device.sessions SUCCESS = both.0 in
    let taken : (ticked device).device.sessions.taken ≡ device.sessions.taken = ap (λ (t : Taken). t.taken) sessions in
    let more = laws.ended device (Ticks drawn) c.ends at.ended in
    let ended : Ended device.sessions (ticked device).device.sessions = inr (SUCCESS, (busy, ((λ e. absurd cc), sessions))) in
    event_goes c device (Ticks drawn) c.ends more.0 at.ended refl (subst (λ (r : Reassembly). IsOf r c.kept) (sym both.1) at.kept) more.1 (inl (sym at.sessions))
    (subst (λ (t : Taken). Ended t (ticked device).device.sessions) at.sessions ended)
    (laws.can device (Ticks drawn) at.can) (ap takes_openly (laws.same device (Ticks drawn)).kind ∙ at.is_open)
    (all_said (ticked device).device (ticked device).replies (laws.can device (Ticks drawn) at.can) (laws.replies device (Ticks drawn) at.can)
    (all_taken (ticked device).device (ticked device).replies (omega (arith, count, taken))) (ticks_bare device))

tick_by : Laws → (c : Course) (device : State) (drawn : List ℕ) → AtDevice c device → (none last : Bool) → device.work_left == 0 ≡ none → device.work_left == 1 ≡ last → GoesAs c device (Ticks drawn)
tick_by laws c device drawn at true last n l = quiet_tick laws c device drawn at (ticks_idle device n)
tick_by laws c device drawn at false false n l = quiet_tick laws c device drawn at (ticks_on device n l)
tick_by laws c device drawn at false true n l = last_tick laws c device drawn at n l

pub tick_goes : Laws → (c : Course) (device : State) (drawn : List ℕ) → AtDevice c device → GoesAs c device (Ticks drawn)
tick_goes laws c device drawn at = tick_by laws c device drawn at (device.work_left == 0) (device.work_left == 1) refl refl

-- ---- a wake-up, a hand

pub woken_sessions : (device : State) → ((woken device).device.sessions ≡ device.sessions) × ((woken device).device.reassembly ≡ device.reassembly)
unfolding woken
woken_sessions device = by (listens device.kind) refl
  where
    by : (b : Bool) → listens device.kind ≡ b → ((woken device).device.sessions ≡ device.sessions) × ((woken device).device.reassembly ≡ device.reassembly)
    by true e = (rw e refl, rw e refl)
    by false e = (rw e refl, rw e refl)

pub wake_goes : Laws → (c : Course) (device : State) → AtDevice c device → GoesAs c device Wakes
unfolding device_after device_replies outcome_of
wake_goes laws c device at =
    quiet laws c device Wakes at (woken_sessions device).0 (woken_sessions device).1
    (said_alike laws device Wakes at.can (woken_sessions device).0 (woken_sessions (later device)).0 (wakes_same device)) (wakes_bare device)

pub set_goes : Laws → (c : Course) (device : State) (value : ℕ) → AtDevice c device → GoesAs c device (Sets value)
unfolding device_after device_replies outcome_of set_by_hand
set_goes laws c device value at =
    quiet laws c device (Sets value) at refl refl (said_alike laws device (Sets value) at.can refl refl (sets_same device value)) (sets_bare_all device value)
