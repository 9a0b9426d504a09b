pub mod Marks
pub mod Quiet
pub mod Passes
pub mod Settling
pub mod Resting
pub mod Sending
pub mod Calls
pub mod Networks
pub mod Awaited
pub mod Routed
pub mod Known
pub mod Homeward
pub mod Live
pub mod Undisturbed
pub mod Tied
pub use Rattle.proof_waking.specs.proof_traffic as proof_traffic
pub use Rattle.proof_waking.specs as proof_waking
pub use Rattle.proof_work.specs as proof_work
