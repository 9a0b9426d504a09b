pub mod Told
pub mod Tie
pub mod Stays
pub mod Walking
pub use Rattle.proof_queue.specs as proof_queue
