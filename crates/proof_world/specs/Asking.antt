-- What the host keeps of what it was asked (this project's own): interviews that wait or are under way are of nodes that are joined, and a plain
-- text that is to be sealed fits its message.
use Rattle.std.specs.Prelude.{◌≡◌, ℕ, true, Option, Some, None}
use Rattle.std.specs.List.{AllByRecursion}
use Rattle.host_requests.specs.State.{RequestsState}
use Rattle.host_requests.specs.declared.task.Task.{Task}
use Rattle.host_requests.specs.declared.task.Task.TheVariants.{First, Second}
use Rattle.host_requests.specs.declared.task.Purpose.{Purpose}
use Rattle.host_requests.specs.declared.task.Purpose.TheVariants.{Housekeeping}
use Rattle.host_requests.specs.declared.under_way.UnderWay.{UnderWay}
use Rattle.proof_host.specs.host_model.State.{HostState, node_of}
use Rattle.proof_serial.specs.Host.{FitsIn}

-- where a task is of an interview, this holds of its node
abbrev pub IsTaskOf : (ℕ → Type 0) → Task → Type 0
IsTaskOf P (First n) = P n
IsTaskOf P (Second n) = P n
IsTaskOf P task = Unit {0}

abbrev pub IsPurposeOf : (ℕ → Type 0) → Purpose → Type 0
IsPurposeOf P (Housekeeping task) = IsTaskOf P task
IsPurposeOf P purpose = Unit {0}

abbrev pub IsUnderWayOf : (ℕ → Type 0) → Option UnderWay → Type 0
IsUnderWayOf P None = Unit {0}
IsUnderWayOf P (Some u) = IsPurposeOf P u.purpose

-- so for the tasks that wait, and for the request under way
pub record AreTasksOf (P : ℕ → Type 0) (s : RequestsState) : Type 0 where
  pub queue : AllByRecursion (IsTaskOf P) s.queue
  pub under_way : IsUnderWayOf P s.under_way

-- a node of the host is joined
abbrev pub IsJoined : HostState → ℕ → Type 0
IsJoined h n = (node_of h n).joined ≡ true

-- the host after every event
pub record HostAsks (h : HostState) : Type 0 where
  pub tasks : AreTasksOf (IsJoined h) h.requests
  pub plains : (n : ℕ) → FitsIn 26 (node_of h n).pending
