pub mod Lasting
pub mod Ahead
pub mod Nodes
pub mod Releasing
pub mod Counting
pub mod Ticking
pub mod Telling
pub mod Holding
mod Working
pub mod Opening
mod SeriesSteps
mod Finishing
pub mod KeptAwake
pub mod Doings
mod SeriesTold
pub mod SeriesGoes
pub mod SeriesTie
pub mod Payloads
mod Carried
pub mod Requested
pub mod Wrote
pub mod Slept
mod Owing
pub mod Late
pub mod Sleeping
pub mod Asleep
pub mod AttemptsGo
pub use Rattle.proof_work.proofs.Times
pub use Rattle.proof_work.proofs.HostNotes
pub use Rattle.proof_requests.proofs.Carried as proof_requests_Carried
pub use Rattle.proof_requests.proofs.Doing
pub use Rattle.proof_requests.proofs.proof_waking_Followed
pub use Rattle.proof_requests.proofs.proof_waking_Parts
pub use Rattle.proof_requests.proofs.Ending
pub use Rattle.proof_requests.proofs.Queued
pub use Rattle.proof_requests.proofs.Queueing
pub use Rattle.proof_requests.proofs.Stepping
pub use Rattle.proof_requests.proofs.Walking
pub use Rattle.proof_requests.proofs.Spelled
pub use Rattle.proof_requests.proofs.proof_waking_Apart
pub use Rattle.proof_requests.proofs.proof_waking_Settling
pub use Rattle.proof_requests.proofs.Telling as proof_requests_Telling
pub use Rattle.proof_requests.proofs.Running
pub use Rattle.proof_requests.proofs.Ended as proof_requests_Ended
pub use Rattle.proof_requests.proofs.Growing as proof_requests_Growing
pub use Rattle.proof_requests.proofs.Standing as proof_requests_Standing
pub use Rattle.proof_requests.proofs.Judging as proof_requests_Judging
pub use Rattle.proof_requests.proofs.EndsHere as proof_requests_EndsHere
pub use Rattle.proof_requests.proofs.proof_alone_Apart
pub use Rattle.proof_requests.proofs.proof_waking_Judging
pub use Rattle.proof_requests.proofs.Line
pub use Rattle.proof_requests.proofs.OnLine
pub use Rattle.proof_work.proofs.Doing as proof_work_Doing
pub use Rattle.proof_work.proofs.HostOuts
pub use Rattle.proof_requests.proofs.EndsDone
pub use Rattle.proof_requests.proofs.Interviews
pub use Rattle.proof_requests.proofs.EndsLate
pub use Rattle.proof_requests.proofs.EndsTold
pub use Rattle.proof_requests.proofs.InOrder
pub use Rattle.proof_requests.proofs.UnderWay
pub use Rattle.proof_work.proofs.Computing
pub use Rattle.proof_requests.proofs.SealedByNumber
pub use Rattle.proof_requests.proofs.SealedTexts
pub use Rattle.proof_work.proofs.Commands
pub use Rattle.proof_work.proofs.Lists
