-- Nodes that take commands in sessions, sealed or not (this project's own).
use Rattle.std.specs.Prelude.{◌≡◌, ◌⊎◌, ℕ, true, List, Some}
use Rattle.s0_crypto.specs.declared.key_pair.Keys.{Keys}
use Rattle.device_sim.specs.State.{State}
use Rattle.law_transcript.specs.Nodes.{device_of, is_supervised}
use Rattle.world_model.specs.Events.{Event}
use Rattle.proof_headline.specs.Plain.{IsPlain}
use Rattle.proof_course_sealed.specs.LockNodes.{IsLockNode}

-- a node whose device, the first of it in the list, takes commands in sessions: its kind lists Supervision
pub record IsSupervisedNode (devices : List State) (node : ℕ) : Type 0 where
  pub device : State
  pub first : device_of node devices ≡ Some device
  pub supervised : is_supervised device ≡ true

-- over these events the node is plain, or it is one of a lock
abbrev pub IsPlainOrLock : Keys → List State → List Event → ℕ → Type 0
IsPlainOrLock keys devices events node = IsPlain devices events node ⊎ IsLockNode keys devices node
