pub mod Collisions
pub mod Marks
pub mod Times
pub mod Pipes
pub mod Arrivals
pub mod Links
pub mod Rooms
pub mod Linked
pub use Rattle.proof_world.specs.Restarts
pub use Rattle.proof_world.specs.Asking
pub use Rattle.proof_world.specs.Lines
pub use Rattle.proof_walk.specs.outside_model as outside_model
pub use Rattle.proof_walk.specs.proof_device as proof_device
pub use Rattle.proof_walk.specs.proof_host as proof_host
pub use Rattle.proof_world.specs.proof_serial as proof_serial
pub use Rattle.proof_traffic.specs as proof_traffic
pub use Rattle.proof_walk.specs as proof_walk
pub use Rattle.proof_world.specs as proof_world
pub use Rattle.proof_walk.specs.world_lines as world_lines
pub use Rattle.proof_walk.specs.world_model as world_model
pub use Rattle.proof_world.specs.host_model as host_model
pub use Rattle.proof_walk.specs.mesh_sim as mesh_sim
