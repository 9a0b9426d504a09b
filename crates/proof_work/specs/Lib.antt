pub mod Doing
pub mod Work
pub mod Rests
pub mod Line
pub mod Tasks
pub mod Machines
pub mod Phases
pub use Rattle.proof_walk.specs.proof_device as proof_device
pub use Rattle.proof_walk.specs as proof_walk
pub use Rattle.law_time.specs as law_time
pub use Rattle.law_time.specs.law_transcript as law_transcript
pub use Rattle.proof_walk.specs.proof_host as proof_host
pub use Rattle.proof_walk.specs.world_lines as world_lines
pub use Rattle.proof_walk.specs.world_model as world_model
