pub mod Since
pub mod Waking
pub mod Working
pub mod Series
pub mod Kept
pub mod Waiting
pub mod Carried
pub mod Slept
pub mod Asleep
pub mod Attempts
pub use Rattle.proof_work.specs.proof_walk as proof_walk
pub use Rattle.proof_requests.specs as proof_requests
pub use Rattle.proof_work.specs as proof_work
pub use Rattle.proof_work.specs.law_time as law_time
pub use Rattle.proof_work.specs.proof_host as proof_host
pub use Rattle.proof_requests.specs.proof_messages as proof_messages
pub use Rattle.proof_work.specs.world_lines as world_lines
pub use Rattle.proof_work.specs.world_model as world_model
