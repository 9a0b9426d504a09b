-- Which nodes are locks (this project's own): their devices take their commands sealed.
use Rattle.std.specs.Prelude.{◌≡◌, ℕ, ◌<◌, true, List}
use Rattle.s0_crypto.specs.declared.key_pair.Keys.{Keys}
use Rattle.device_kinds.specs.declared.kind.Kind.{Kind}
use Rattle.device_kinds.specs.Kind.{lists}
use Rattle.device_sim.specs.State.{State}
use Rattle.proof_course_sealed.specs.Courses.{first_courses}
use Rattle.proof_course_sealed.specs.Meaning.{first_past}
use Rattle.proof_course_sealed.specs.Mesh.{HasLock}

-- A kind that lists Supervision and Security 0 (the classes are those of a Node Information Frame): it takes commands in sessions, and sealed.
pub record IsLockKind (kind : Kind) : Type 0 where
  pub supervised : lists kind 0x6C ≡ true
  pub sealed : lists kind 0x98 ≡ true

-- the first device of the node is a lock as its maker left it, with the key of the network; the others of the node are idle
pub record IsLockNode (keys : Keys) (devices : List State) (node : ℕ) : Type 0 where
  pub within : node < 233
  pub device : HasLock (first_past keys) node first_courses devices
