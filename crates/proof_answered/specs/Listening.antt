-- Devices that listen (this project's own kinds): they are awake at all times, so each frame for one is heard.
use Rattle.std.specs.Prelude.{◌≡◌, ℕ, List, Some, slice_get}
pub use Rattle.law_time.specs.law_wire.Listening.{IsUp}
use Rattle.device_sim.specs.State.{State}
use Rattle.mesh_sim.specs.Fates.{place_of}

-- the first device of a node is of a kind that listens, and awake
pub record HasListener (node : ℕ) (devices : List State) : Type 0 where
  pub place : ℕ
  pub device : State
  pub first : place_of node devices ≡ Some place
  pub stands : slice_get devices place ≡ Some device
  pub is_up : IsUp device
