-- How the course of a host's notes follows a host alone between its parts (this project's own rule): nothing is due, its books are the host's, and a request is under way in it where one is in
-- the host; or that one has ended with nothing to note, which the course finds out later. While the number of a tick is still to be entered books are as if it were.
use Rattle.std.specs.Prelude.{◌≡◌, ◌⊎◌, ◌≤◌, ◌<◌, ℕ, Bool, true, false, if◌then◌else◌, is_none, List, [], ◌∷◌, ◌++◌, Option, None}
use Rattle.std.specs.List.{AllByRecursion}
use Rattle.zw_text.specs.declared.entry.Entry.{Entry}
use Rattle.zw_text.specs.declared.entry.Entry.TheVariants.{Time}
use Rattle.host_heard.specs.declared.told.Told.{Told}
use Rattle.law_transcript.specs.Units.{Carried}
use Rattle.law_time.specs.Heeds.{Heeds}
use Rattle.law_time.specs.Ends.{ending_among}
use Rattle.law_time.specs.Requests.{asked, judged_since, request_last}
use Rattle.host_requests.specs.Frames.{request_of}
use Rattle.host_requests.specs.declared.task.Purpose.{Purpose}
use Rattle.host_requests.specs.declared.task.Purpose.TheVariants.{Abort}
use Rattle.host_model.specs.State.{HostState}
use Rattle.proof_hearing.specs.Books.{BooksSo}
use Rattle.proof_hearing.specs.Hearing.{choosing}
use Rattle.proof_hearing.specs.proof_queue.proof_attempts.Carried.{CarriesWell}
use Rattle.proof_hearing.specs.proof_queue.proof_attempts.proof_requests.Carrying.{CarriesSo}
use Rattle.proof_hearing.specs.proof_queue.proof_attempts.proof_requests.law_host.Course.{Book, Choices, Course, Offer, course_from}
use Rattle.proof_hearing.specs.proof_queue.proof_attempts.proof_requests.law_host.Following.{course_after}
use Rattle.proof_hearing.specs.proof_queue.proof_attempts.proof_requests.law_host.Heard.{heeds_alone}
use Rattle.proof_hearing.specs.proof_queue.proof_attempts.proof_requests.law_host.HostLegal.{IsHeeded}
use Rattle.proof_hearing.specs.proof_queue.proof_attempts.proof_requests.law_host.Notes.{Start}
use Rattle.proof_hearing.specs.proof_queue.proof_attempts.proof_requests.law_host.Ticks.{is_denied}
use Rattle.proof_hearing.specs.proof_queue.proof_attempts.proof_requests.proof_alone.State.{HostMachine}
use Rattle.proof_hearing.specs.proof_choice.proof_following.Ended.{sleep_entries}
use Rattle.proof_hearing.specs.proof_choice.proof_following.Quiet.{ended_silently}
use Rattle.proof_hearing.specs.proof_choice.proof_ends.Ends.{errands_of, seconds_of}

-- ---- where it begins

-- The course of what was heard begins after what stood before, with the books that were kept, and as if these nonces had been offered: those that were live.
pub record Outset : Type 0 where
  pub before : List Entry
  pub books : List Book
  pub offered : List Offer

abbrev pub outset_of : Start → List Offer → Outset
outset_of start offered = record { before = start.before; books = start.books; offered = offered }

abbrev pub first_course : Outset → Choices → Course
first_course from choices = record (course_from from.books choices) { offered = from.offered }

abbrev pub course_since : Heeds → Outset → List Entry → Choices → Course
course_since heeds from heard choices = course_after heeds from.before heard (first_course from choices)

-- ---- choices

-- The course of what was heard since the start, whatever is chosen later: these choices were made, and those that are still to come stand in it.
pub record CourseOf (heeds : Heeds) (from : Outset) (past : List Entry) (course : Course) : Type 0 where
  pub heard : List Entry
  pub split : past ≡ from.before ++ heard
  pub kept : List Bool
  pub opened : List (Option (List ℕ))
  pub is : (keepings : List Bool) (texts : List (Option (List ℕ)))
      → course_since heeds from heard (record { keepings = kept ++ keepings; texts = opened ++ texts }) ≡ choosing keepings texts course

-- Entries make this of a course, by these choices, whatever is chosen later.
pub record Goes (heeds : Heeds) (past told : List Entry) (course next : Course) : Type 0 where
  pub kept : List Bool
  pub opened : List (Option (List ℕ))
  pub goes : (keepings : List Bool) (texts : List (Option (List ℕ)))
      → course_after heeds past told (choosing (kept ++ keepings) (opened ++ texts) course) ≡ choosing keepings texts next

-- ---- the host

-- with the number of the tick, where that is still to be entered
abbrev pub timed : HostMachine → List Entry → List Entry
timed m past = if m.awaits then past ++ Time m.clock ∷ [] else past

-- nothing is to be noted at the end of a request for this purpose, unless a command is given up by it
pub record IsQuiet (h : HostState) (p : Purpose) : Type 0 where
  pub errands : errands_of p ≡ []
  pub sleeps : sleep_entries h p ≡ []
  pub interviews : seconds_of p ≡ []

-- it is as the host has it
pub record Level (key : List ℕ) (heeds : Heeds) (past : List Entry) (m : HostMachine) (course : Course) : Type 0 where
  pub over : course.over ≡ is_none m.state.requests.under_way
  pub books : BooksSo key heeds (timed m past) m.state course

-- the request under way has ended by no frame, with nothing to note: the course comes to that with the tick, or where the host has heard the answer; that an abort is over it never does
pub record Lags (key : List ℕ) (heeds : Heeds) (past : List Entry) (m : HostMachine) (course : Course) : Type 0 where
  pub running : course.over ≡ false
  pub none : m.state.requests.under_way ≡ None
  pub purpose : Purpose
  pub id : ℕ
  pub request : request_last past ≡ request_of purpose id ∷ []
  pub carries : CarriesSo purpose
  pub well : CarriesWell purpose
  pub unended : ending_among (asked past).frame true (judged_since (asked past)) ≡ []
  pub quiet : IsQuiet m.state purpose
  pub books : BooksSo key heeds (timed m past) m.state (ended_silently past course)
  pub why : (course.ticked < m.clock) ⊎ ((is_denied past ≡ true) ⊎ (purpose ≡ Abort))

-- it is level, or an abort is over
abbrev pub IsLevel : (key : List ℕ) (heeds : Heeds) (past : List Entry) (m : HostMachine) (course : Course) → Type 0
IsLevel key heeds past m course = Level key heeds past m course ⊎ ((lags : Lags key heeds past m course) × (lags.purpose ≡ Abort))

pub record Follows (key : List ℕ) (taken : List Entry → Carried → List Told) (past : List Entry) (m : HostMachine) (course : Course) : Type 0 where
  pub fits : course.fits ≡ true
  pub none_due : course.due ≡ []
  pub low : course.ticked ≤ m.clock
  pub heeded : AllByRecursion (IsHeeded taken) course.heeded
  pub so : Level key (heeds_alone taken) past m course ⊎ Lags key (heeds_alone taken) past m course
