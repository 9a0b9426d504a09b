pub mod Full
pub mod Ties
pub mod Unkept
pub use Rattle.proof_known.specs as proof_known
pub use Rattle.proof_attempts.specs as proof_attempts
pub use Rattle.proof_attempts.specs.proof_requests as proof_requests
pub use Rattle.proof_attempts.specs.proof_work as proof_work
pub use Rattle.proof_attempts.specs.law_time as law_time
pub use Rattle.proof_attempts.specs.proof_messages as proof_messages
pub use Rattle.proof_attempts.specs.world_lines as world_lines
pub use Rattle.proof_attempts.specs.world_model as world_model
