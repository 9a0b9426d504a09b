pub mod Books
mod Undropped
mod Refused
mod Asking
mod Stills
mod Sleepers
pub mod Orders
mod Looks
mod Tells
mod Pumped
pub mod Joined
mod Dropping
mod Sleeps
mod Ending
pub mod Seeing
mod Ties
mod Pace
mod Loose
mod Noted
mod Frames
mod Closing
mod Knowing
mod Saying
mod Heeded
mod Ticked
mod Pumping
mod Walking
mod Along
mod Puts
pub mod Segments
pub mod Kept
mod Messages
mod Payloads
mod Choosing
pub use Rattle.proof_attempts.proofs.Opening
pub use Rattle.proof_attempts.proofs.SeriesTie
pub use Rattle.proof_attempts.proofs.proof_requests_Growing
pub use Rattle.proof_attempts.proofs.proof_requests_Standing
pub use Rattle.proof_attempts.proofs.proof_requests_Telling
pub use Rattle.proof_attempts.proofs.proof_waking_Apart
pub use Rattle.proof_attempts.proofs.AttemptsGo
pub use Rattle.proof_attempts.proofs.Late
pub use Rattle.proof_attempts.proofs.Queued
pub use Rattle.proof_attempts.proofs.Stepping
pub use Rattle.proof_attempts.proofs.Walking as proof_attempts_Walking
pub use Rattle.proof_attempts.proofs.Wrote
pub use Rattle.proof_attempts.proofs.Doings
pub use Rattle.proof_attempts.proofs.Ahead
pub use Rattle.proof_attempts.proofs.Counting
pub use Rattle.proof_attempts.proofs.Nodes
pub use Rattle.proof_attempts.proofs.SeriesGoes
pub use Rattle.proof_attempts.proofs.Telling
pub use Rattle.proof_attempts.proofs.proof_requests_EndsHere
pub use Rattle.proof_attempts.proofs.proof_requests_Judging
pub use Rattle.proof_attempts.proofs.proof_requests_Ended
pub use Rattle.proof_attempts.proofs.Ending as proof_attempts_Ending
pub use Rattle.proof_attempts.proofs.HostOuts
pub use Rattle.proof_attempts.proofs.Doing as proof_requests_Doing
pub use Rattle.proof_attempts.proofs.proof_alone_Apart
pub use Rattle.proof_attempts.proofs.Ticking
pub use Rattle.proof_attempts.proofs.Lasting
pub use Rattle.proof_attempts.proofs.KeptAwake
pub use Rattle.proof_attempts.proofs.Requested
pub use Rattle.proof_attempts.proofs.EndsLate
pub use Rattle.proof_attempts.proofs.proof_waking_Judging
pub use Rattle.proof_attempts.proofs.proof_waking_Settling
pub use Rattle.proof_attempts.proofs.Spelled
pub use Rattle.proof_attempts.proofs.Line
pub use Rattle.proof_attempts.proofs.OnLine
pub use Rattle.proof_attempts.proofs.Running
pub use Rattle.proof_attempts.proofs.proof_waking_Followed
pub use Rattle.proof_known.proofs.Bodies
pub use Rattle.proof_known.proofs.Keeping
pub use Rattle.proof_attempts.proofs.Holding
pub use Rattle.proof_attempts.proofs.Queueing
pub use Rattle.proof_attempts.proofs.InOrder
pub use Rattle.proof_sending.proofs.Grounds as proof_sending_Grounds
pub use Rattle.proof_attempts.proofs.proof_waking_Parts
pub use Rattle.proof_attempts.proofs.UnderWay
pub use Rattle.proof_known.proofs.Saying as proof_known_Saying
pub use Rattle.proof_known.proofs.Ordered
pub use Rattle.proof_known.proofs.Noting
pub use Rattle.proof_attempts.proofs.Slept
pub use Rattle.proof_known.proofs.AnswerFacts
