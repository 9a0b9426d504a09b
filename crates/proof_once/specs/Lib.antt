pub mod Tied
pub mod ByTable
pub mod InSessions
pub mod Truly
pub use Rattle.proof_host.specs.law_transcript as law_transcript
pub use Rattle.proof_device.specs.outside_model as outside_model
pub use Rattle.proof_device.specs as proof_device
pub use Rattle.proof_host.specs as proof_host
pub use Rattle.proof_messages.specs as proof_messages
pub use Rattle.proof_device.specs.world_model as world_model
pub use Rattle.proof_messages.specs.device_sim as device_sim
pub use Rattle.proof_device.specs.mesh_sim as mesh_sim
