mod Standing
pub mod Noting
pub mod Walking
mod Readings
pub use Rattle.proof_rests.proofs.Times
pub use Rattle.proof_rests.proofs.HostNotes
pub use Rattle.proof_rests.proofs.EndsDone
pub use Rattle.proof_rests.proofs.EndsHere
pub use Rattle.proof_rests.proofs.Interviews
pub use Rattle.proof_rests.proofs.EndsTold
pub use Rattle.proof_rests.proofs.Done
pub use Rattle.proof_rests.proofs.Freeing
pub use Rattle.proof_rests.proofs.AtRests
pub use Rattle.proof_rests.proofs.ByMessage
pub use Rattle.proof_rests.proofs.Accounts
pub use Rattle.proof_rests.proofs.Payloads
pub use Rattle.proof_rests.proofs.proof_nonces_Walking
pub use Rattle.proof_rests.proofs.proof_notes_Along
pub use Rattle.proof_rests.proofs.proof_notes_Walking
