-- Nodes of whose devices it is known over any lines what they make of their sessions (this project's own rule): one whose orders go unsealed, or a lock.
use Rattle.std.specs.Prelude.{ℕ, List}
use Rattle.s0_crypto.specs.declared.key_pair.Keys.{Keys}
use Rattle.device_sim.specs.State.{State}
use Rattle.world_model.specs.Events.{Event}
use Rattle.proof_course_sealed.specs.LockNodes.{IsLockNode}
use Rattle.proof_in_time.specs.Openly.{IsOpenOver}

-- the first device of the node is as its maker left it, and takes what is not sealed where its orders go so over these events, or is a lock
pub data IsJudgedOver (keys : Keys) (devices : List State) (events : List Event) (n : ℕ) : Type 0 where
  Openly : IsOpenOver devices events n → IsJudgedOver keys devices events n
  Locked : IsLockNode keys devices n → IsJudgedOver keys devices events n
