-- What a device makes of the sessions of the host at one event of its own.
use Rattle.std.proofs.Common.{◌≡◌, ℕ, ◌%◌, ◌==◌, ◌⊎◌, inl, inr, Bool, true, false, List, [], ◌∷◌, refl, ap, sym, ◌∙◌, subst, arith}
use Rattle.std.proofs.lemmas.Bool.{eqb-true}
use Rattle.supervision.specs.Session.{wire_id}
use Rattle.supervision.specs.Device.{Taken, heard_of}
use Rattle.supervision.specs.declared.device_book.Heard.{Heard}
use Rattle.supervision.specs.declared.device_book.Heard.TheVariants.{New, Again, Old}
use Rattle.proof_course.specs.Parts.{numbered}
use Rattle.proof_course.specs.Sessions.{Course, Cargo, Command, Of_host, Answer, Of_node}
use Rattle.proof_course.specs.SessionLaws.{NamesOne}
use Rattle.host_orders.specs.Wrapping.{message_of}
use Rattle.device_kinds.specs.Judging.{status_of}
use Rattle.device_kinds.specs.Kind.{listens}
use Rattle.device_stack.specs.Ticking.{ticked, woken}
use Rattle.device_sim.specs.State.{State}
use Rattle.device_sim.specs.Event.{Hears, Ticks, Wakes, outcome_of, device_after, device_replies}
use Rattle.proof_once.specs.proof_messages.Asking.{verdict_on, IsLeft, Follows}
use Rattle.proof_once.specs.proof_messages.Ending.{HasEnded}
use Rattle.proof_once.specs.proof_messages.Segments.{KeepsSegment, MakesWhole}
use Rattle.proof_once.proofs.SessionMessages.{knows_supervision}
use Rattle.proof_course_plain.specs.Meaning.{Asked, IsMessageOf, IsSegmentOf, IsMessage, HostMeans}
use Rattle.proof_course_plain.specs.Making.{Makes, NamesNext, Names}
use Rattle.proof_course_plain.specs.Device.{AtDevice}
use Rattle.proof_course_plain.specs.Judged.{Judges}
use Rattle.proof_course_plain.proofs.MadeSettings.{Laws}
use Rattle.proof_course_plain.proofs.Segments.{IsNext, IsAnother, segment_heard}

-- what is left as it was
pub left_judges : (orders : List Asked) (commands : List ℕ) (old new : State) → IsLeft old new → Judges orders commands old new
left_judges orders commands old new left = inl (record { sessions = left.0.sessions; journal = left.0.journal })

-- another device with the same sessions and changes
same_judges : (orders : List Asked) (commands : List ℕ) (old new other : State) → other.sessions ≡ new.sessions → other.journal ≡ new.journal → Judges orders commands old new → Judges orders commands old other
same_judges orders commands old new other sessions journal (inl still) = inl (record { sessions = sessions ∙ still.sessions; journal = journal ∙ still.journal })
same_judges orders commands old new other sessions journal (inr (inl takes)) = inr (inl (record {
  number = takes.number;
  asked = takes.asked;
  carried = takes.carried;
  accepted = takes.accepted;
  fit = takes.fit;
  end = takes.end;
  free = takes.free;
  sessions = sessions ∙ takes.sessions;
}))
same_judges orders commands old new other sessions journal (inr (inr ends)) = inr (inr (record { working = ends.working; sessions = sessions ∙ ends.sessions }))

-- a device that follows the message of a session
module _ (orders : List Asked) (commands : List ℕ) (device new : State) (session : ℕ) (payload : List ℕ) (is : IsMessageOf orders commands session payload) (segment : Bool)
    (names : NamesOne device.sessions (record { session = session; is_segment = segment })) where
  heard_by : (heard : Heard) → heard_of device.sessions (wire_id session) ≡ heard → Follows device new (verdict_on device is.asked.carriage is.asked.order) heard → Judges orders commands device new
  heard_by (New number) e t =
      let which = names.is_new number e in
      inr (inl (record {
        number = is.number;
        asked = is.asked;
        carried = subst (λ (k : ℕ). numbered commands k ≡ is.number ∷ []) which.1 is.carried;
        accepted = is.accepted;
        fit = is.fit;
        end = is.end;
        free = t.free;
        sessions = subst (λ (k : ℕ). new.sessions ≡ record { taken = k; status = status_of (verdict_on device is.asked.carriage is.asked.order) }) (which.0 ∙ which.1) t.sessions;
      }))
  heard_by (Again status) e left = left_judges orders commands device new left
  heard_by Old e left = left_judges orders commands device new left

  pub follows_judges : Follows device new (verdict_on device is.asked.carriage is.asked.order) (heard_of device.sessions (wire_id session)) → Judges orders commands device new
  follows_judges follows = heard_by (heard_of device.sessions (wire_id session)) refl follows

message_judges : Laws → (orders : List Asked) (commands : List ℕ) (c : Course) (device : State) (session : ℕ) (payload drawn : List ℕ) → AtDevice c device → device.awake ≡ true → IsMessageOf orders commands session payload
    → (segment : Bool) → NamesOne c.device (record { session = session; is_segment = segment }) → Judges orders commands device (device_after device (Hears payload drawn))
message_judges laws orders commands c device session payload drawn at awake is segment names =
    subst (λ (p : List ℕ). Judges orders commands device (device_after device (Hears p drawn))) (sym is.text)
    (follows_judges orders commands device (device_after device (Hears (message_of is.asked.carriage is.asked.order session) drawn)) session payload is segment
    (subst (λ (t : Taken). NamesOne t (record { session = session; is_segment = segment })) (sym at.sessions) names)
    (laws.follows device drawn is.asked.carriage is.asked.order session is.fit is.end awake at.is_open))

-- a segment is heard
segment_judges : Laws → (orders : List Asked) (commands : List ℕ) (c : Course) (device : State) (session : ℕ) (payload drawn : List ℕ) → AtDevice c device → device.awake ≡ true → IsSegmentOf orders commands session payload
    → Names c.device (Command (record { session = session; is_segment = true })) → Makes orders commands device → Judges orders commands device (device_after device (Hears payload drawn))
segment_judges laws orders commands c device session payload drawn at awake is names m =
    by (segment_heard laws.segments orders commands device session payload drawn awake at.is_open is named m.keeps)
  where
    named : NamesNext device.sessions (record { session = session; is_segment = true })
    named = subst (λ (t : Taken). NamesNext t (record { session = session; is_segment = true })) (sym at.sessions) names.1

    new : State
    new = device_after device (Hears payload drawn)

    by : IsNext laws.segments orders commands device session payload drawn awake at.is_open is named m.keeps ⊎ IsAnother laws.segments orders commands device session payload drawn awake at.is_open is named m.keeps
        → Judges orders commands device (device_after device (Hears payload drawn))
    by (inr another) = left_judges orders commands device (device_after device (Hears payload drawn)) another.left
    by (inl next) = heard next.heard
      where
        heard : KeepsSegment is.message (session % 16) device new (device_replies device (Hears payload drawn))
            ⊎ MakesWhole (session % 16) (device_after device (Hears is.message drawn)) (device_replies device (Hears is.message drawn)) new (device_replies device (Hears payload drawn)) → Judges orders commands device new
        heard (inl (k, none)) = inl (record { sessions = k.untouched.sessions; journal = k.untouched.journal })
        heard (inr (whole, said)) =
            same_judges orders commands device (device_after device (Hears is.message drawn)) new (ap (λ (d : State). d.sessions) whole) (ap (λ (d : State). d.journal) whole)
            (message_judges laws orders commands c device session is.message drawn at awake is.of true names.0)

command_judges : Laws → (orders : List Asked) (commands : List ℕ) (c : Course) (device : State) (segment : Bool) (session : ℕ) (payload drawn : List ℕ) → AtDevice c device → device.awake ≡ true
    → IsMessage segment orders commands session payload → Names c.device (Command (record { session = session; is_segment = segment })) → Makes orders commands device → Judges orders commands device (device_after device (Hears payload drawn))
command_judges laws orders commands c device true session payload drawn at awake is names m = segment_judges laws orders commands c device session payload drawn at awake is names m
command_judges laws orders commands c device false session payload drawn at awake is names m = message_judges laws orders commands c device session payload drawn at awake is false names.0

-- a payload of the host is heard
abbrev pub Judging : Type 0
Judging = (orders : List Asked) (commands : List ℕ) (c : Course) (device : State) (cargo : Cargo) (payload drawn : List ℕ) → AtDevice c device → device.awake ≡ true → HostMeans orders commands payload cargo
    → Names c.device cargo → Makes orders commands device → Judges orders commands device (device_after device (Hears payload drawn))

pub payload_judges : Laws → Judging
payload_judges laws orders commands c device (Command message) payload drawn at awake is names m = command_judges laws orders commands c device message.is_segment message.session payload drawn at awake is names m
payload_judges laws orders commands c device Of_host payload drawn at awake is names m =
    left_judges orders commands device (device_after device (Hears payload drawn)) (laws.left device payload drawn is (knows_supervision device.kind at.is_open))
payload_judges laws orders commands c device (Answer session status) payload drawn at awake is names m = absurd is
payload_judges laws orders commands c device Of_node payload drawn at awake is names m = absurd is

-- ---- a tick, a wake-up

module _ (orders : List Asked) (commands finals : List ℕ) (device : State) (ended : HasEnded device finals) where
  tick_judges : (none last : Bool) → device.work_left == 0 ≡ none → device.work_left == 1 ≡ last → Judges orders commands device (ticked device).device
  unfolding ticked
  tick_judges true last n l = inl (record { sessions = rw n refl; journal = rw n refl })
  tick_judges false false n l = inl (record { sessions = rw (n, l) refl; journal = rw (n, l) refl })
  tick_judges false true n l =
      let one : device.work_left ≡ 1 = eqb-true device.work_left 1 l in
      inr (inr (record { working = ended.at_work (omega (arith, one)); sessions = rw (n, l) refl }))

  pub ticks_judge : (drawn : List ℕ) → Judges orders commands device (device_after device (Ticks drawn))
  unfolding device_after outcome_of
  ticks_judge drawn = tick_judges (device.work_left == 0) (device.work_left == 1) refl refl

  wake_judges : (b : Bool) → listens device.kind ≡ b → Judges orders commands device (woken device).device
  unfolding woken
  wake_judges true e = inl (record { sessions = rw e refl; journal = rw e refl })
  wake_judges false e = inl (record { sessions = rw e refl; journal = rw e refl })

  pub wakes_judge : Judges orders commands device (device_after device Wakes)
  unfolding device_after outcome_of
  wakes_judge = wake_judges (listens device.kind) refl
