pub mod Waiting
pub mod Heeding
pub mod Turn
pub mod Sleeping
pub use Rattle.proof_attempts.specs as proof_attempts
pub use Rattle.proof_sending.specs as proof_sending
pub use Rattle.proof_sending.specs.proof_world as proof_world
pub use Rattle.proof_known.specs as proof_known
