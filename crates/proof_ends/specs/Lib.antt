pub mod Ends
pub mod Ascending
pub use Rattle.proof_rests.specs.proof_requests as proof_requests
pub use Rattle.proof_rests.specs.proof_attempts as proof_attempts
pub use Rattle.proof_rests.specs.proof_nonces as proof_nonces
pub use Rattle.proof_rests.specs.proof_notes as proof_notes
pub use Rattle.proof_rests.specs as proof_rests
