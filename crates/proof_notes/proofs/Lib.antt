pub mod ByMessage
pub mod ByPayload
mod ByEntry
pub mod Walking
mod Lacking
pub mod Along
pub use Rattle.proof_attempts.proofs.Times
pub use Rattle.proof_attempts.proofs.HostNotes
pub use Rattle.proof_attempts.proofs.Doing
pub use Rattle.proof_attempts.proofs.InOrder
pub use Rattle.proof_attempts.proofs.Queued
pub use Rattle.proof_attempts.proofs.Requested
pub use Rattle.proof_attempts.proofs.Stepping
pub use Rattle.proof_attempts.proofs.Walking as proof_attempts_Walking
pub use Rattle.proof_attempts.proofs.Wrote
pub use Rattle.proof_attempts.proofs.proof_requests_Telling
pub use Rattle.proof_attempts.proofs.Queueing
pub use Rattle.proof_attempts.proofs.Lasting
pub use Rattle.proof_known.proofs.KeptKeys
pub use Rattle.proof_known.proofs.Running
pub use Rattle.proof_known.proofs.Apart
pub use Rattle.proof_known.proofs.Events
pub use Rattle.proof_known.proofs.Lists
pub use Rattle.proof_known.proofs.Noting
pub use Rattle.proof_known.proofs.Parts
pub use Rattle.proof_known.proofs.proof_alone_Apart
pub use Rattle.proof_known.proofs.proof_device_HostOuts
pub use Rattle.proof_known.proofs.Settling
pub use Rattle.proof_known.proofs.Followed
pub use Rattle.proof_known.proofs.Always
pub use Rattle.proof_known.proofs.Followers
pub use Rattle.proof_known.proofs.Telling
pub use Rattle.proof_attempts.proofs.Ending
pub use Rattle.proof_attempts.proofs.proof_waking_Judging
pub use Rattle.proof_attempts.proofs.Line
pub use Rattle.proof_attempts.proofs.OnLine
pub use Rattle.proof_attempts.proofs.proof_work_Doing
pub use Rattle.proof_attempts.proofs.Opening
pub use Rattle.proof_attempts.proofs.Releasing
pub use Rattle.proof_attempts.proofs.Sleeping
pub use Rattle.proof_attempts.proofs.Asleep
pub use Rattle.proof_attempts.proofs.KeptAwake
pub use Rattle.proof_attempts.proofs.Late
pub use Rattle.proof_attempts.proofs.Slept
pub use Rattle.proof_attempts.proofs.EndsDone
pub use Rattle.proof_attempts.proofs.Interviews
pub use Rattle.proof_attempts.proofs.proof_requests_EndsHere as EndsHere
pub use Rattle.proof_attempts.proofs.EndsLate
pub use Rattle.proof_attempts.proofs.EndsTold
pub use Rattle.proof_attempts.proofs.proof_requests_Judging as Judging
pub use Rattle.proof_attempts.proofs.Payloads as attempts_Payloads
pub use Rattle.proof_attempts.proofs.Computing
pub use Rattle.proof_attempts.proofs.SealedByNumber
pub use Rattle.proof_attempts.proofs.SealedTexts
pub use Rattle.proof_known.proofs.proof_transcript_Answering
