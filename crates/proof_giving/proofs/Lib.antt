pub mod Told
pub mod Begun
pub mod Asking
mod Badly
pub mod Stays
mod EndsSo
mod NodesGo
mod Over
mod HostGoes
pub mod AtRest
pub mod Orders
mod Inner
pub mod Along
mod Finished
pub mod Fewer
mod Signs
mod Mild
pub mod Staying
pub mod Requesting
pub mod Heeded
pub mod Framed
pub mod Ticked
pub mod Asked
mod Interviewed
mod Walked
mod Counted
pub mod Rested
pub mod GivesUp
mod Given
pub mod Prompt
mod Promptly
mod Carries
pub mod Acked
pub mod Quiet
mod Segments
pub use Rattle.proof_queue.proofs.Doings
pub use Rattle.proof_queue.proofs.Wrote
pub use Rattle.proof_queue.proofs.proof_requests_Telling
pub use Rattle.proof_queue.proofs.Books
pub use Rattle.proof_queue.proofs.Keeping
pub use Rattle.proof_queue.proofs.proof_alone_Apart
pub use Rattle.proof_queue.proofs.Orders as proof_queue_Orders
pub use Rattle.proof_queue.proofs.Lasting
pub use Rattle.proof_queue.proofs.Queued
pub use Rattle.proof_queue.proofs.Stepping
pub use Rattle.proof_queue.proofs.proof_attempts_Walking
pub use Rattle.proof_queue.proofs.Counting
pub use Rattle.proof_queue.proofs.InOrder
pub use Rattle.proof_queue.proofs.Requested
pub use Rattle.proof_queue.proofs.Joined
pub use Rattle.proof_queue.proofs.Seeing
pub use Rattle.proof_queue.proofs.Segments as proof_queue_Segments
pub use Rattle.proof_queue.proofs.AttemptsGo
pub use Rattle.proof_queue.proofs.proof_requests_EndsHere
pub use Rattle.proof_queue.proofs.Kept
pub use Rattle.proof_queue.proofs.Opening
pub use Rattle.proof_queue.proofs.proof_waking_Apart
pub use Rattle.proof_queue.proofs.Line
pub use Rattle.proof_queue.proofs.Ahead
pub use Rattle.proof_queue.proofs.HostOuts
pub use Rattle.proof_queue.proofs.Holding
pub use Rattle.proof_queue.proofs.Telling
pub use Rattle.proof_queue.proofs.Ticking
pub use Rattle.proof_queue.proofs.proof_waking_Judging
pub use Rattle.proof_queue.proofs.Running
pub use Rattle.proof_queue.proofs.UnderWay
pub use Rattle.proof_queue.proofs.proof_known_Saying
pub use Rattle.proof_queue.proofs.proof_attempts_Ending
pub use Rattle.proof_queue.proofs.Late
pub use Rattle.proof_queue.proofs.proof_requests_Judging
pub use Rattle.proof_queue.proofs.proof_waking_Parts
pub use Rattle.proof_queue.proofs.Noting
pub use Rattle.proof_queue.proofs.Queueing
pub use Rattle.proof_queue.proofs.Slept
pub use Rattle.proof_queue.proofs.AnswerFacts
pub use Rattle.proof_queue.proofs.SeriesGoes
pub use Rattle.proof_queue.proofs.KeptAwake
pub use Rattle.proof_queue.proofs.proof_requests_Doing
pub use Rattle.proof_queue.proofs.Spelled
pub use Rattle.proof_queue.proofs.proof_requests_Growing
pub use Rattle.proof_queue.proofs.proof_requests_Standing
pub use Rattle.proof_queue.proofs.proof_requests_Ended
pub use Rattle.proof_queue.proofs.EndsLate
pub use Rattle.proof_queue.proofs.OnLine
pub use Rattle.proof_queue.proofs.Nodes
pub use Rattle.proof_queue.proofs.Ordered
pub use Rattle.proof_queue.proofs.proof_sending_Grounds
