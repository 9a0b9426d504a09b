pub mod Phases
pub mod Paths
pub mod Walk
pub mod Outside
pub mod ByLine
pub mod Time
pub use Rattle.proof_host.specs.host_model as host_model
pub use Rattle.proof_device.specs.mesh_sim as mesh_sim
pub use Rattle.proof_device.specs.outside_model as outside_model
pub use Rattle.proof_device.specs as proof_device
pub use Rattle.proof_host.specs as proof_host
pub use Rattle.world_lines.specs as world_lines
pub use Rattle.proof_device.specs.world_model as world_model
