pub mod Books
pub mod Hearing
pub use Rattle.proof_choice.specs.proof_ends.proof_nonces as proof_nonces
pub use Rattle.proof_choice.specs.proof_giving.proof_queue as proof_queue
pub use Rattle.proof_choice.specs as proof_choice
