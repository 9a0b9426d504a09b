-- The attempts of a series of a node, in its host and by the transcript (this project's own rule). Where one runs in the host the transcript tells that as many more have begun than have ended
-- there, that the last one is not over, and when the node gave its last sign; where one is due after another, that the last one is over. A node is looked at at its own time.
use Rattle.std.specs.Prelude.{◌≡◌, ℕ, ◌+◌, ◌≤◌, ◌&&◌, ◌||◌, Bool, true, false, List, [], ◌∷◌}
use Rattle.zw_text.specs.declared.entry.Entry.{Entry}
use Rattle.proof_work.specs.law_time.Attempts.{Attempts as AttemptsTold, ends_badly, is_late, is_of_inner}
use Rattle.proof_work.specs.law_time.Heeds.{Heeds}
use Rattle.proof_work.specs.law_time.Requests.{Asked}
use Rattle.proof_work.specs.law_time.Sessions.{last_command}
use Rattle.std.specs.List.{list_any}
use Rattle.host_node.specs.State.{NodeState}
use Rattle.host_node.specs.declared.series.Series.{Series}
use Rattle.host_node.specs.declared.series.Series.TheVariants.{Idle, Due, Running}

-- how many have begun, where so many have ended
abbrev pub begun_of : Series → ℕ → ℕ
begun_of Idle ended = 0
begun_of Due ended = ended
begun_of Running ended = ended + 1

-- the tick of the last sign, where so much is left of the wait that began with it; where none has, no wait runs
abbrev pub IsSign : List ℕ → ℕ → ℕ → Type 0
IsSign [] time wait = wait ≡ 0
IsSign (tick ∷ more) time wait = (more ≡ []) × (1 ≤ wait) × (tick + 100 ≡ time + wait)

-- whether the last one is over by that time, where its request, the last one of the host, has ended badly or not
abbrev pub is_over_by : ℕ → Bool → AttemptsTold → Bool
is_over_by time badly told = is_late time told || (told.own && badly)

pub record GoesOn (told : AttemptsTold) (wait time : ℕ) (badly : Bool) : Type 0 where
  pub not_over : told.over ≡ false
  pub sign : IsSign told.sign time wait
  pub not_badly : (told.own && badly) ≡ false

-- one that runs goes on; and where another is due after some, the last one is over
abbrev pub LastIs : Series → ℕ → AttemptsTold → ℕ → ℕ → Bool → Type 0
LastIs Idle ended told wait time badly = Unit {0}
LastIs Due ended told wait time badly = 1 ≤ ended → is_over_by time badly told ≡ true
LastIs Running ended told wait time badly = GoesOn told wait time badly

pub record AreAttempts (told : AttemptsTold) (node : NodeState) (time : ℕ) (badly : Bool) : Type 0 where
  pub begun : told.begun ≡ begun_of node.series node.book.attempts
  pub last : LastIs node.series node.book.attempts told node.attempt_wait time badly

-- whether the last request of the host, where it is of an attempt of a node, has ended badly by a time
abbrev pub has_ended_badly : Heeds → List Entry → Asked → ℕ → ℕ → Bool
has_ended_badly heeds past last now node = ends_badly last (list_any (is_of_inner heeds past node last.frame) (last_command node past)) now
