pub mod Payloads
mod Queued
mod Since
mod Taking
pub mod Walking
mod Grounds
mod Ordered
pub mod Accounts
mod Reports
mod Opening
mod Counting
mod Standing
mod Unsealed
pub use Rattle.proof_notes.proofs.ByMessage
pub use Rattle.proof_notes.proofs.Along as proof_notes_Along
pub use Rattle.proof_notes.proofs.Walking as proof_notes_Walking
pub use Rattle.proof_notes.proofs.Lasting
pub use Rattle.proof_notes.proofs.Queueing
pub use Rattle.proof_notes.proofs.Running as Running
pub use Rattle.proof_notes.proofs.Events
pub use Rattle.proof_notes.proofs.Telling
pub use Rattle.proof_notes.proofs.Noting
pub use Rattle.proof_notes.proofs.proof_alone_Apart as proof_alone_Apart
pub use Rattle.proof_notes.proofs.Ending
pub use Rattle.proof_notes.proofs.Apart
pub use Rattle.proof_notes.proofs.Followed
pub use Rattle.proof_notes.proofs.Settling
pub use Rattle.proof_notes.proofs.proof_waking_Judging
pub use Rattle.proof_notes.proofs.Parts as proof_waking_Parts
pub use Rattle.proof_notes.proofs.Line
pub use Rattle.proof_notes.proofs.OnLine
pub use Rattle.proof_notes.proofs.proof_work_Doing as Doing
pub use Rattle.proof_notes.proofs.proof_device_HostOuts
pub use Rattle.proof_notes.proofs.Opening as proof_attempts_Opening
pub use Rattle.proof_notes.proofs.Releasing
pub use Rattle.proof_notes.proofs.Sleeping
pub use Rattle.proof_notes.proofs.Asleep
pub use Rattle.proof_notes.proofs.KeptAwake
pub use Rattle.proof_notes.proofs.Late
pub use Rattle.proof_notes.proofs.Requested
pub use Rattle.proof_notes.proofs.Slept
pub use Rattle.proof_notes.proofs.Wrote
pub use Rattle.proof_notes.proofs.EndsDone
pub use Rattle.proof_notes.proofs.Interviews
pub use Rattle.proof_notes.proofs.Doing as proof_requests_Doing
pub use Rattle.proof_notes.proofs.EndsHere
pub use Rattle.proof_notes.proofs.EndsLate
pub use Rattle.proof_notes.proofs.EndsTold
pub use Rattle.proof_notes.proofs.Judging
pub use Rattle.proof_notes.proofs.Stepping
pub use Rattle.proof_notes.proofs.proof_attempts_Walking as proof_requests_Walking
pub use Rattle.proof_notes.proofs.Times
pub use Rattle.proof_notes.proofs.HostNotes
pub use Rattle.proof_notes.proofs.proof_transcript_Answering
