pub mod Freeing
mod Entries
mod Counting
mod Wanted
mod Walking
mod Interviewing
pub mod AtRests
pub mod Done
pub use Rattle.proof_nonces.proofs.proof_attempts_Opening as Opening
pub use Rattle.proof_nonces.proofs.Releasing
pub use Rattle.proof_nonces.proofs.Sleeping
pub use Rattle.proof_nonces.proofs.Asleep
pub use Rattle.proof_nonces.proofs.KeptAwake
pub use Rattle.proof_nonces.proofs.Lasting
pub use Rattle.proof_nonces.proofs.Late
pub use Rattle.proof_nonces.proofs.Requested
pub use Rattle.proof_nonces.proofs.Slept
pub use Rattle.proof_nonces.proofs.Wrote
pub use Rattle.proof_nonces.proofs.EndsDone
pub use Rattle.proof_nonces.proofs.Interviews
pub use Rattle.proof_nonces.proofs.proof_requests_Doing as Doing
pub use Rattle.proof_nonces.proofs.EndsHere
pub use Rattle.proof_nonces.proofs.EndsLate
pub use Rattle.proof_nonces.proofs.EndsTold
pub use Rattle.proof_nonces.proofs.Judging
pub use Rattle.proof_nonces.proofs.Queueing
pub use Rattle.proof_nonces.proofs.Stepping
pub use Rattle.proof_nonces.proofs.proof_requests_Walking
pub use Rattle.proof_nonces.proofs.proof_waking_Judging
pub use Rattle.proof_nonces.proofs.proof_waking_Parts
pub use Rattle.proof_nonces.proofs.proof_device_HostOuts
pub use Rattle.proof_nonces.proofs.Times
pub use Rattle.proof_nonces.proofs.HostNotes
pub use Rattle.proof_nonces.proofs.ByMessage
pub use Rattle.proof_nonces.proofs.Accounts
pub use Rattle.proof_nonces.proofs.Payloads
pub use Rattle.proof_nonces.proofs.Walking as proof_nonces_Walking
pub use Rattle.proof_nonces.proofs.proof_notes_Along
pub use Rattle.proof_nonces.proofs.proof_notes_Walking
pub use Rattle.proof_nonces.proofs.Running
pub use Rattle.proof_nonces.proofs.proof_transcript_Answering
