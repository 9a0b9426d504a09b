pub mod Undone
pub mod Known
pub use Rattle.proof_nonces.specs.proof_attempts as proof_attempts
pub use Rattle.proof_nonces.specs as proof_nonces
pub use Rattle.proof_nonces.specs.proof_notes as proof_notes
pub use Rattle.proof_nonces.specs.proof_requests as proof_requests
pub use Rattle.proof_nonces.specs.world_lines as world_lines
