pub mod Few
pub mod Listening
pub mod Heard
pub mod Outward
pub mod FirstAttempts
pub mod Turns
pub mod Workers
pub mod Sleepers
pub mod Said
pub use Rattle.proof_calm.specs as proof_calm
