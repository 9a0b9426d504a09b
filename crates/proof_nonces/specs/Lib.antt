pub mod Sealing
pub mod Known
pub mod Giving
pub mod Counted
pub mod Worked
pub use Rattle.proof_notes.specs.proof_attempts as proof_attempts
pub use Rattle.proof_notes.specs.proof_known as proof_known
pub use Rattle.proof_notes.specs as proof_notes
pub use Rattle.proof_notes.specs.proof_requests as proof_requests
pub use Rattle.proof_notes.specs.proof_work as proof_work
pub use Rattle.proof_notes.specs.world_lines as world_lines
