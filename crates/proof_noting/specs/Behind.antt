-- How the course of a host's notes stands behind an item that a host alone has judged (this project's own rule): with one event that is left it goes on as the host does; and of a payload it is
-- in the middle, as the host is.
use Rattle.std.specs.Prelude.{◌≡◌, ◌⊎◌, ℕ, Bool, true, false, List, [], ◌∷◌, ◌++◌, Option}
use Rattle.std.specs.List.{AllByRecursion}
use Rattle.chip_functions.specs.Field.{IsNode}
use Rattle.zw_text.specs.declared.entry.Entry.{Entry}
use Rattle.host_heard.specs.Telling.{heard_at}
use Rattle.host_heard.specs.declared.told.Told.{Told}
use Rattle.law_transcript.specs.Units.{Carried}
use Rattle.host_model.specs.Events.{HostEvent}
use Rattle.host_model.specs.Outs.{noted, outs}
use Rattle.host_model.specs.State.{HostState}
use Rattle.host_model.specs.Taking.{PayloadEvents}
use Rattle.proof_hearing.specs.proof_choice.proof_giving.Told.{attempts_so_far}
use Rattle.proof_hearing.specs.Hearing.{Remaining, RemainsSo, Whole, HearsSo, choosing, else_of, finishes, hearing_at, heeded_rest}
use Rattle.proof_hearing.specs.proof_queue.proof_attempts.proof_requests.law_host.Course.{Course, with_heeded}
use Rattle.proof_hearing.specs.proof_queue.proof_attempts.proof_requests.law_host.Following.{is_note}
use Rattle.proof_hearing.specs.proof_queue.proof_attempts.proof_requests.law_host.Heard.{heeds_alone}
use Rattle.proof_hearing.specs.proof_queue.proof_attempts.proof_requests.law_host.HostLegal.{IsHeeded}
use Rattle.proof_hearing.specs.proof_queue.proof_attempts.proof_requests.proof_alone.State.{HostMachine, done}
use Rattle.proof_hearing.specs.proof_queue.proof_attempts.proof_requests.proof_alone.Steps.{AreFrames, IsOfUnit}
use Rattle.proof_hearing.specs.proof_queue.proof_attempts.proof_requests.proof_alone.Phases.{Behind}
use Rattle.proof_hearing.specs.proof_choice.proof_following.Quiet.{acknowledges}
use Rattle.proof_noting.specs.Following.{CourseOf, Follows, Goes, Outset, course_since}
use Rattle.proof_noting.specs.Sure.{SureRun}
use Rattle.proof_noting.specs.Ticking.{OverSo}

-- what came and was not judged is frames alone, or the number of the tick stands and the course has gone through it
abbrev pub Answered : HostMachine → Course → Type 0
Answered m course = AreFrames m.came ⊎ ((course.ticked ≡ m.clock) × (m.awaits ≡ false))

-- nothing is left
pub record AtOpen (key : List ℕ) (taken : List Entry → Carried → List Told) (from : Outset) (past : List Entry) (m : HostMachine) : Type 0 where
  pub course : Course
  pub of : CourseOf (heeds_alone taken) from past course
  pub follows : Follows key taken past m course
  pub answered : Answered m course

-- One event is left, of a request or an interview: its notes make of the course one that follows the host.
pub record OneLeft (key : List ℕ) (taken : List Entry → Carried → List Told) (from : Outset) (past : List Entry) (m : HostMachine) (event : HostEvent) : Type 0 where
  pub course : Course
  pub of : CourseOf (heeds_alone taken) from past course
  pub fits : course.fits ≡ true
  pub told : List Entry
  pub outs_are : outs m.state event ≡ noted told
  pub notes : AllByRecursion (λ e. is_note e ≡ true) told
  pub next : Course
  pub goes : Goes (heeds_alone taken) past told course next
  pub follows : Follows key taken (past ++ told) (done m event) next
  pub numbered : m.awaits ≡ false
  pub answered : Answered m next
  pub same : (next.offered ≡ course.offered) × (next.opened ≡ course.opened) × (next.sealed ≡ course.sealed) × (next.heeded ≡ course.heeded)

-- Events of a payload are left, of those that followed it (`followed`). In the run without what became of the acknowledgement (`marks`) the course is in the middle of it: since `begun` these
-- choices were made, the rest is what comes of what remains, and by all of it the host goes by these messages. With the marks the attempts of each node are the same.
pub record InPayload (key : List ℕ) (taken : List Entry → Carried → List Told) (from : Outset) (start : HostMachine) (past : List Entry) (m : HostMachine) (left : List HostEvent) : Type 0 where
  pub before : List Entry
  pub marks : List Entry
  pub marked : AllByRecursion IsOfUnit marks
  pub node : ℕ
  pub is_node : IsNode node
  pub payload : List ℕ
  pub first : HostState
  pub gone : List HostEvent
  pub followed : PayloadEvents first node payload (heard_at payload) (gone ++ left)
  -- where it is acknowledged: by the choices up to there
  pub begun : Course
  pub kept : List Bool
  pub opened : List (Option (List ℕ))
  pub heard : List Entry
  pub split : before ++ acknowledges ∷ [] ≡ from.before ++ heard
  pub begins : (keepings : List Bool) (texts : List (Option (List ℕ)))
      → course_since (heeds_alone taken) from heard (record { keepings = kept ++ keepings; texts = opened ++ texts })
      ≡ with_heeded (before ++ acknowledges ∷ []) (record { node = node; payload = payload })
      (finishes (hearing_at taken before (before ++ acknowledges ∷ []) node payload) Whole (choosing keepings texts begun))
  pub untaken : begun.taken ≡ []
  pub none_due : begun.due ≡ []
  pub fits : begun.fits ≡ true
  pub ticked : begun.ticked ≡ m.clock
  pub heeded : AllByRecursion (IsHeeded taken) begun.heeded
  pub over : OverSo (before ++ acknowledges ∷ []) m begun
  -- in the middle of it
  pub remaining : Remaining
  pub course : Course
  pub since_kept : List Bool
  pub since_opened : List (Option (List ℕ))
  pub leads : (keepings : List Bool) (texts : List (Option (List ℕ)))
      → finishes (hearing_at taken before (before ++ acknowledges ∷ []) node payload) Whole (choosing (since_kept ++ keepings) (since_opened ++ texts) begun)
      ≡ finishes (hearing_at taken before (before ++ acknowledges ∷ []) node payload) remaining (choosing keepings texts course)
  pub remains : RemainsSo m.state (hearing_at taken before (before ++ acknowledges ∷ []) node payload) remaining left
  pub goes_by : course.taken ++ heeded_rest m.state (hearing_at taken before (before ++ acknowledges ∷ []) node payload) remaining left remains
      ≡ taken (before ++ acknowledges ∷ []) (record { node = node; payload = payload })
  pub so : HearsSo key (hearing_at taken before (before ++ acknowledges ∷ []) node payload) ((before ++ acknowledges ∷ []) ++ course.due) m.state course
  pub other : else_of course ≡ else_of begun
  pub notes : AllByRecursion (λ e. is_note e ≡ true) course.due
  pub numbered : m.awaits ≡ false
  -- and with what became of the acknowledgement
  pub past_is : past ≡ (before ++ acknowledges ∷ marks) ++ course.due
  pub same : (n : ℕ) → attempts_so_far (heeds_alone taken) n ((before ++ acknowledges ∷ []) ++ course.due) ≡ attempts_so_far (heeds_alone taken) n past
  pub sure : SureRun taken start (Behind left) ((before ++ acknowledges ∷ []) ++ course.due) m

-- whichever of these it is
pub data BehindSo (key : List ℕ) (taken : List Entry → Carried → List Told) (from : Outset) (start : HostMachine) (past : List Entry) (m : HostMachine) : (left : List HostEvent) → Type 0 where
  None_left : AtOpen key taken from past m → BehindSo key taken from start past m []
  One_left : (event : HostEvent) → OneLeft key taken from past m event → BehindSo key taken from start past m (event ∷ [])
  Payload_left : {left : List HostEvent} → InPayload key taken from start past m left → BehindSo key taken from start past m left
