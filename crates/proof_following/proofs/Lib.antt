pub mod Ending
pub mod Framing
pub mod Ticking
pub mod Entering
pub mod Coming
pub mod Silent
pub mod LateEnds
pub mod HostEnds
pub mod Hearing
pub mod Acks
pub mod TickNotes
pub mod Informing
pub mod Judging
pub use Rattle.proof_ends.proofs.Walking as proof_ends_Walking
pub use Rattle.proof_ends.proofs.Noting as proof_ends_Noting
pub use Rattle.proof_ends.proofs.EndsTold
pub use Rattle.proof_ends.proofs.Interviews
pub use Rattle.proof_ends.proofs.Done
pub use Rattle.proof_ends.proofs.Freeing
pub use Rattle.proof_ends.proofs.Times
pub use Rattle.proof_ends.proofs.HostNotes
pub use Rattle.proof_ends.proofs.AtRests
pub use Rattle.proof_ends.proofs.ByMessage
pub use Rattle.proof_ends.proofs.Accounts
pub use Rattle.proof_ends.proofs.Payloads
pub use Rattle.proof_ends.proofs.proof_nonces_Walking
pub use Rattle.proof_ends.proofs.proof_notes_Along
pub use Rattle.proof_ends.proofs.proof_notes_Walking
