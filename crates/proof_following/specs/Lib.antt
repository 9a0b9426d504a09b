pub mod Ended
pub mod Quiet
pub use Rattle.proof_ends.specs as proof_ends
