-- How the course of a host's notes stands in the host's own part of a tick (this project's own rule): as before it, as long as nothing was noted; and once something was, it has gone through the
-- whole tick, and what is due of it is what the nodes still to tick give up.
use Rattle.std.specs.Prelude.{◌≡◌, ◌⊎◌, ◌≤◌, ◌<◌, ℕ, Bool, true, false, is_none, List, [], ◌∷◌, ◌++◌, Option, None}
use Rattle.std.specs.List.{AllByRecursion}
use Rattle.zw_text.specs.declared.entry.Entry.{Entry}
use Rattle.host_heard.specs.declared.told.Told.{Told}
use Rattle.law_transcript.specs.Units.{Carried}
use Rattle.law_time.specs.Moments.{clock}
use Rattle.law_time.specs.Requests.{request_last}
use Rattle.host_requests.specs.Frames.{request_of}
use Rattle.host_requests.specs.declared.task.Purpose.TheVariants.{Abort}
use Rattle.host_model.specs.Events.{HostEvent, Line_ticks, Requests_do}
use Rattle.proof_hearing.specs.Books.{BooksSo}
use Rattle.proof_hearing.specs.Hearing.{choosing}
use Rattle.proof_hearing.specs.proof_queue.proof_attempts.proof_requests.law_host.Course.{Course, each_in_turn}
use Rattle.proof_hearing.specs.proof_queue.proof_attempts.proof_requests.law_host.Ends.{gives_up_late}
use Rattle.proof_hearing.specs.proof_queue.proof_attempts.proof_requests.law_host.Following.{is_note}
use Rattle.proof_hearing.specs.proof_queue.proof_attempts.proof_requests.law_host.Heard.{heeds_alone}
use Rattle.proof_hearing.specs.proof_queue.proof_attempts.proof_requests.law_host.HostLegal.{IsHeeded}
use Rattle.proof_hearing.specs.proof_queue.proof_attempts.proof_requests.law_host.Ticks.{nodes_in_order}
use Rattle.proof_hearing.specs.proof_queue.proof_attempts.proof_requests.proof_alone.State.{HostMachine}
use Rattle.proof_hearing.specs.proof_queue.proof_attempts.proof_requests.proof_alone.Steps.{AreFrames}
use Rattle.proof_hearing.specs.proof_choice.proof_ends.Ascending.{Ascends}
use Rattle.proof_noting.specs.Following.{CourseOf, Follows, Outset, course_since}

-- nothing was noted in it
pub record NoneNoted (key : List ℕ) (taken : List Entry → Carried → List Told) (from : Outset) (past : List Entry) (m : HostMachine) : Type 0 where
  pub course : Course
  pub of : CourseOf (heeds_alone taken) from past course
  pub follows : Follows key taken past m course
  pub early : course.ticked < m.clock
  pub frames : AreFrames m.came

-- the line has had its part, and where the request is still to have its, none is under way
abbrev pub IsIdleAt : List HostEvent → HostMachine → Type 0
IsIdleAt (Line_ticks ∷ left) m = ⊥
IsIdleAt (Requests_do event moment ∷ left) m = m.state.requests.under_way ≡ None
IsIdleAt left m = Unit {0}

-- a request is under way in the course as in the host, but that an abort may be over, which the course never comes to
abbrev pub OverSo : List Entry → HostMachine → Course → Type 0
OverSo past m course =
    (course.over ≡ is_none m.state.requests.under_way)
    ⊎ ((course.over ≡ false) × (m.state.requests.under_way ≡ None) × ((id : ℕ) × (request_last past ≡ request_of Abort id ∷ [])))

-- Something was: `noted` since `start`, by an end of the request or by nodes up to the last one; the course in the middle of it (`mid`) has all that as due, and its books are the host's.
pub record SomeNoted (key : List ℕ) (taken : List Entry → Carried → List Told) (from : Outset) (past : List Entry) (m : HostMachine) (left : List HostEvent) : Type 0 where
  pub start : List Entry
  pub noted : List Entry
  pub are : past ≡ start ++ noted
  pub notes : AllByRecursion (λ e. is_note e ≡ true) noted
  pub front : List ℕ
  pub rest : List ℕ
  pub nodes : nodes_in_order start ≡ front ++ rest
  pub last : ℕ
  pub passed : AllByRecursion (λ n. n ≤ last) front
  pub above : Ascends last left
  pub mid : Course
  pub kept : List Bool
  pub opened : List (Option (List ℕ))
  pub heard : List Entry
  pub split : past ≡ from.before ++ heard
  -- what the nodes still to tick give up is due
  pub is : (keepings : List Bool) (texts : List (Option (List ℕ)))
      → (more : List Entry) × ((each_in_turn (gives_up_late (heeds_alone taken) start m.clock) rest (choosing keepings texts mid)).due ≡ noted ++ more)
      × (course_since (heeds_alone taken) from heard (record { keepings = kept ++ keepings; texts = opened ++ texts })
      ≡ record (each_in_turn (gives_up_late (heeds_alone taken) start m.clock) rest (choosing keepings texts mid)) { due = more })
  pub due : mid.due ≡ noted
  pub fits : mid.fits ≡ true
  pub ticked : mid.ticked ≡ m.clock
  pub over : OverSo past m mid
  pub idle : IsIdleAt left m
  pub heeded : AllByRecursion (IsHeeded taken) mid.heeded
  pub books : BooksSo key (heeds_alone taken) past m.state mid
  pub numbered : m.awaits ≡ false
  pub time : clock start ≡ m.clock
  pub frames : AreFrames m.came

pub data TickSo (key : List ℕ) (taken : List Entry → Carried → List Told) (from : Outset) (past : List Entry) (m : HostMachine) (left : List HostEvent) : Type 0 where
  Nothing : Ascends 0 left → NoneNoted key taken from past m → TickSo key taken from past m left
  Something : SomeNoted key taken from past m left → TickSo key taken from past m left
