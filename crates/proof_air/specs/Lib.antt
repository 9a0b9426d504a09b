pub mod Logs
pub mod Hearing
pub mod Carrying
pub mod Landing
pub mod Doing
pub use Rattle.proof_walk.specs.proof_host as proof_host
pub use Rattle.proof_walk.specs as proof_walk
pub use Rattle.proof_walk.specs.world_lines as world_lines
pub use Rattle.proof_walk.specs.world_model as world_model
pub use Rattle.law_wire.specs.law_transcript as law_transcript
pub use Rattle.law_wire.specs as law_wire
pub use Rattle.proof_walk.specs.outside_model as outside_model
pub use Rattle.proof_walk.specs.proof_device as proof_device
pub use Rattle.proof_walk.specs.host_model as host_model
pub use Rattle.proof_walk.specs.mesh_sim as mesh_sim
