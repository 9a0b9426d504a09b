-- How the course of a host's notes stands to a host alone at each phase of a run (this project's own rule).
use Rattle.std.specs.Prelude.{◌≡◌, ◌≤◌, ℕ, false, true, List, [], ◌∷◌, ◌++◌}
use Rattle.std.specs.List.{AllByRecursion}
use Rattle.zw_text.specs.declared.line.Line.{Line}
use Rattle.zw_text.specs.declared.entry.Refusal.{Refusal}
use Rattle.zw_text.specs.declared.entry.Entry.{Entry}
use Rattle.zw_text.specs.declared.entry.Entry.TheVariants.{Said, Refused}
use Rattle.zw_text.specs.Transcript.{line_of}
use Rattle.host_heard.specs.declared.told.Told.{Told}
use Rattle.law_transcript.specs.Restarts.{is_restart}
use Rattle.law_transcript.specs.Units.{Carried}
use Rattle.proof_hearing.specs.Books.{BooksSo}
use Rattle.proof_hearing.specs.proof_queue.proof_attempts.proof_requests.law_host.Course.{Course, restarted}
use Rattle.proof_hearing.specs.proof_queue.proof_attempts.proof_requests.law_host.Heard.{heeds_alone}
use Rattle.proof_hearing.specs.proof_queue.proof_attempts.proof_requests.law_host.HostLegal.{IsHeeded}
use Rattle.proof_hearing.specs.proof_queue.proof_attempts.proof_requests.proof_alone.State.{HostMachine}
use Rattle.proof_hearing.specs.proof_queue.proof_attempts.proof_requests.proof_alone.Steps.{AreFrames}
use Rattle.proof_hearing.specs.proof_queue.proof_attempts.proof_requests.proof_alone.Phases.{Asked, Risen, Ticking, Open, Behind}
use Rattle.proof_hearing.specs.proof_queue.proof_attempts.proof_requests.proof_alone.Runs.{Knowledge}
use Rattle.proof_noting.specs.Following.{CourseOf, Follows, IsLevel, Outset}
use Rattle.proof_noting.specs.Behind.{AtOpen, BehindSo}
use Rattle.proof_noting.specs.Ticking.{NoneNoted, TickSo}

-- it follows the host, which has judged all answers that came
pub record AtRest (key : List ℕ) (taken : List Entry → Carried → List Told) (from : Outset) (past : List Entry) (m : HostMachine) : Type 0 where
  pub course : Course
  pub of : CourseOf (heeds_alone taken) from past course
  pub follows : Follows key taken past m course
  pub frames : AreFrames m.came

-- a host that starts again: what its course has restarted had the books of the host
pub record Anew (key : List ℕ) (taken : List Entry → Carried → List Told) (from : Outset) (past : List Entry) (m : HostMachine) : Type 0 where
  pub course : Course
  pub of : CourseOf (heeds_alone taken) from past (restarted course)
  pub fits : course.fits ≡ true
  pub none_due : course.due ≡ []
  pub low : course.ticked ≤ m.clock
  pub heeded : AllByRecursion (IsHeeded taken) course.heeded
  pub somewhere : List Entry
  pub books : BooksSo key (heeds_alone taken) somewhere m.state course

-- it has gone through all ticks besides, and finds the host as it is
abbrev pub IsSaid : (key : List ℕ) (taken : List Entry → Carried → List Told) (from : Outset) (past : List Entry) (m : HostMachine) → Type 0
IsSaid key taken from past m = (rest : AtRest key taken from past m) × (rest.course.ticked ≡ m.clock) × IsLevel key (heeds_alone taken) past m rest.course

-- The words of a line stand last: it follows the host where they do not start it again, or are refused; where they do, what was before them is level.
pub record AtWords (key : List ℕ) (taken : List Entry → Carried → List Told) (from : Outset) (line : Line) (past : List Entry) (m : HostMachine) : Type 0 where
  pub before : List Entry
  pub words : List ℕ
  pub are : past ≡ before ++ Said words ∷ []
  pub read : line_of (Said words) ≡ line ∷ []
  pub unnumbered : m.awaits ≡ false
  pub frames : AreFrames m.came
  pub goes_on : is_restart (line ∷ []) ≡ false → IsSaid key taken from past m
  pub anew : is_restart (line ∷ []) ≡ true → Anew key taken from past m
  pub in_vain : (refusal : Refusal) → IsSaid key taken from (past ++ Refused refusal ∷ []) m

abbrev pub KnowsCourse : (key : List ℕ) (taken : List Entry → Carried → List Told) (from : Outset) (start : HostMachine) → Knowledge
KnowsCourse key taken from start (Asked line) past m = AtWords key taken from line past m
KnowsCourse key taken from start Risen past m = NoneNoted key taken from past m
KnowsCourse key taken from start (Ticking left) past m = TickSo key taken from past m left
KnowsCourse key taken from start Open past m = AtOpen key taken from past m
KnowsCourse key taken from start (Behind left) past m = BehindSo key taken from start past m left
KnowsCourse key taken from start here past m = AtRest key taken from past m
