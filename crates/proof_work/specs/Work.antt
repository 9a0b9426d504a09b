-- What holds of a host's work after every event (this project's own rules, docs/NODES.md and docs/REQUESTS.md): an attempt that runs has something that wakes it, so that none
-- hangs; and a node is told at most once that there is no more for it.
use Rattle.std.specs.Prelude.{◌≡◌, ◌≢◌, ◌⊎◌, ℕ, ◌+◌, ◌≤◌, ◌==◌, ◌&&◌, ◌||◌, nat_lt, is_some, Bool, true, false, if◌then◌else◌, Option, Some, None, IsSome, List, [], ◌∷◌}
use Rattle.supervision.specs.Host.{open_session}
use Rattle.host_requests.specs.declared.task.Task.{Task}
use Rattle.host_requests.specs.declared.task.Task.TheVariants.{NoMore}
use Rattle.host_requests.specs.declared.task.Purpose.{Purpose}
use Rattle.host_requests.specs.declared.task.Purpose.TheVariants.{Housekeeping, Attempt}
use Rattle.host_requests.specs.declared.under_way.UnderWay.{UnderWay}
use Rattle.host_requests.specs.State.{RequestsState}
use Rattle.host_requests.specs.Facts.{IsRequests}
use Rattle.host_node.specs.declared.series.Series.{Series}
use Rattle.host_node.specs.declared.series.Series.TheVariants.{Idle, Running}
use Rattle.host_node.specs.declared.no_more.NoMore.{NoMore as NoMoreState}
use Rattle.host_node.specs.declared.no_more.NoMore.TheVariants.{Unasked, Queued, Dropped}
use Rattle.host_node.specs.State.{NodeState, has_segment, is_running}
use Rattle.host_node.specs.Facts.{IsQuiet}
use Rattle.host_node.specs.TableState.{node_of}
use Rattle.proof_walk.specs.host_model.State.{HostState}
use Rattle.proof_walk.specs.host_model.Did.{one_if}
use Rattle.proof_walk.specs.host_model.Facts.{HostFacts}

-- ---- attempts

-- the part of an attempt of node n that is under way, where one is: whether it is a segment that others follow
abbrev pub part_by : ℕ → Purpose → Option Bool
part_by n (Attempt m more payload) = if m == n then Some more else None
part_by n purpose = None

abbrev pub part_of : ℕ → Option UnderWay → Option Bool
part_of n None = None
part_of n (Some u) = part_by n u.purpose

-- What wakes a running attempt: the part of it that is under way, which others follow exactly where segments are left; else its wait, or a segment that is left.
abbrev pub Wakes : Option Bool → ℕ → Bool → Type 0
Wakes None wait left = (1 ≤ wait) ⊎ (left ≡ true)
Wakes (Some more) wait left = more ≡ left

-- an attempt that runs is woken; one with a sealed text, or a plain text to be sealed, has no segments
pub record AttemptFacts (part : Option Bool) (series : Series) (wait next segments : ℕ) (text pending : Option (List ℕ)) : Type 0 where
  pub goes_on : is_running series ≡ true → Wakes part wait (nat_lt next segments)
  pub whole : (is_some text || is_some pending) ≡ true → segments ≡ 0

abbrev pub IsAlive : Option Bool → NodeState → Type 0
IsAlive part n = AttemptFacts part n.series n.attempt_wait n.next_segment n.segments n.text n.pending

-- and none runs while No More Information is queued
pub record NodeWork (part : Option Bool) (n : NodeState) : Type 0 where
  pub alive : IsAlive part n
  pub quiet : IsQuiet n

-- ---- No More Information

-- how many of the tasks that wait tell node n that there is no more for it
abbrev pub told_by : ℕ → Task → ℕ
told_by n (NoMore m) = one_if (m == n)
told_by n task = 0

abbrev pub told_in : ℕ → List Task → ℕ
told_in n [] = 0
told_in n (task ∷ rest) = told_by n task + told_in n rest

-- whether the request under way does
abbrev pub told_for : ℕ → Purpose → ℕ
told_for n (Housekeeping task) = told_by n task
told_for n purpose = 0

abbrev pub told_at : ℕ → Option UnderWay → ℕ
told_at n None = 0
told_at n (Some u) = told_for n u.purpose

abbrev pub times_told : ℕ → RequestsState → ℕ
times_told n requests = told_in n requests.queue + told_at n requests.under_way

-- how often it should be
abbrev pub times_due : NoMoreState → ℕ
times_due Unasked = 0
times_due Queued = 1
times_due Dropped = 0

-- ---- the whole

-- of the requests and nodes of a host: the requests are in order, each node's attempt is woken, and each node is told as often as it should be
pub record Work (requests : RequestsState) (nodes : List NodeState) : Type 0 where
  pub valid : IsRequests requests
  pub each : (n : ℕ) → NodeWork (part_of n requests.under_way) (node_of nodes n)
  pub once : (n : ℕ) → times_told n requests ≡ times_due (node_of nodes n).no_more

pub record HostWork (h : HostState) : Type 0 where
  pub host : HostFacts h
  pub work : Work h.requests h.nodes

-- ---- what it says

-- of a series: one that is due or runs is of an open session, with fewer than three attempts over; only one that runs has a wait, a segment or a text left of an attempt, and
-- never a sealed text beside a plain one; and only between two series of an open session does the wait for another run
pub record SeriesMeans (n : NodeState) : Type 0 where
  pub opened : n.series ≢ Idle → IsSome (open_session n.book)
  pub fewer : n.series ≢ Idle → n.book.attempts ≤ 2
  pub waits : 1 ≤ n.attempt_wait → n.series ≡ Running
  pub segments_left : has_segment n ≡ true → n.series ≡ Running
  pub texts_left : (is_some n.text || is_some n.pending) ≡ true → n.series ≡ Running
  pub one : (is_some n.text && is_some n.pending) ≡ false
  pub again : 1 ≤ n.again_wait → (n.series ≡ Idle) × IsSome (open_session n.book)

-- what will wake an attempt that runs: its wait, a part of it that is under way, or a segment that is left
abbrev pub IsWoken : Option Bool → NodeState → Type 0
IsWoken part n = (1 ≤ n.attempt_wait) ⊎ (IsSome part ⊎ (has_segment n ≡ true))

-- while a node is told that there is no more for it, it was interviewed, is awake, and no attempt runs
pub record MayBeTold (n : NodeState) : Type 0 where
  pub awake : n.awake ≡ true
  pub interviewed : IsSome n.classes
  pub at_rest : n.series ≢ Running
