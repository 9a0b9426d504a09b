pub mod Waits
pub mod Served
pub mod Blocked
pub mod Plans
pub mod Ready
pub mod Nodes
pub mod Turning
pub mod Choosing
pub mod Resting
pub mod Counting
pub mod Readying
pub use Rattle.proof_following.specs.proof_ends as proof_ends
pub use Rattle.proof_giving.specs as proof_giving
pub use Rattle.proof_following.specs as proof_following
