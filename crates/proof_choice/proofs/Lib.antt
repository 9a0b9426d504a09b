mod Served
mod ServedTie
mod Failures
mod BlockedTie
pub mod Staying
pub mod Plans
pub mod Parts
mod Turns
pub mod Owners
mod Choices
mod Choosing
mod Resting
pub mod Along
mod Readies
mod InTurn
mod Whole
mod Wanting
mod Nonces
mod ReadyGoes
pub mod ReadyTie
mod ReadyWalk
mod ReadyJudged
pub mod ReadyStarts
mod Unended
mod ReadyFrames
mod ReadyAlong
pub use Rattle.proof_following.proofs.Times
pub use Rattle.proof_following.proofs.HostNotes
pub use Rattle.proof_giving.proofs.Opening
pub use Rattle.proof_giving.proofs.Told
pub use Rattle.proof_giving.proofs.Stepping
pub use Rattle.proof_giving.proofs.proof_requests_Telling
pub use Rattle.proof_giving.proofs.Line
pub use Rattle.proof_giving.proofs.Stays
pub use Rattle.proof_giving.proofs.proof_waking_Apart
pub use Rattle.proof_giving.proofs.Requesting
pub use Rattle.proof_giving.proofs.Ticked
pub use Rattle.proof_giving.proofs.Wrote
pub use Rattle.proof_giving.proofs.proof_attempts_Walking
pub use Rattle.proof_giving.proofs.proof_requests_EndsHere
pub use Rattle.proof_giving.proofs.Along as proof_giving_Along
pub use Rattle.proof_giving.proofs.Doings
pub use Rattle.proof_giving.proofs.Late
pub use Rattle.proof_giving.proofs.AtRest
pub use Rattle.proof_giving.proofs.Rested
pub use Rattle.proof_giving.proofs.Books
pub use Rattle.proof_giving.proofs.Heeded
pub use Rattle.proof_giving.proofs.Kept
pub use Rattle.proof_giving.proofs.Asking
pub use Rattle.proof_giving.proofs.Framed
pub use Rattle.proof_giving.proofs.Holding
pub use Rattle.proof_giving.proofs.Prompt
pub use Rattle.proof_giving.proofs.HostOuts
pub use Rattle.proof_giving.proofs.Counting
pub use Rattle.proof_giving.proofs.Lasting
pub use Rattle.proof_giving.proofs.Requested
pub use Rattle.proof_giving.proofs.Telling
pub use Rattle.proof_giving.proofs.Begun
pub use Rattle.proof_giving.proofs.Queued
pub use Rattle.proof_giving.proofs.proof_queue_Orders
pub use Rattle.proof_giving.proofs.Asked
pub use Rattle.proof_giving.proofs.InOrder
pub use Rattle.proof_giving.proofs.Running
pub use Rattle.proof_following.proofs.Ending
pub use Rattle.proof_following.proofs.proof_ends_Noting
pub use Rattle.proof_following.proofs.proof_ends_Walking
pub use Rattle.proof_following.proofs.EndsTold
pub use Rattle.proof_following.proofs.Ticking
pub use Rattle.proof_following.proofs.Entering
pub use Rattle.proof_following.proofs.TickNotes
pub use Rattle.proof_following.proofs.Framing
pub use Rattle.proof_following.proofs.Acks
pub use Rattle.proof_following.proofs.Hearing
pub use Rattle.proof_following.proofs.HostEnds
pub use Rattle.proof_following.proofs.Coming
pub use Rattle.proof_following.proofs.Silent
pub use Rattle.proof_following.proofs.LateEnds
pub use Rattle.proof_following.proofs.Interviews
pub use Rattle.proof_following.proofs.Informing
pub use Rattle.proof_following.proofs.ByMessage
pub use Rattle.proof_following.proofs.Accounts
pub use Rattle.proof_following.proofs.Payloads
pub use Rattle.proof_following.proofs.proof_nonces_Walking
pub use Rattle.proof_giving.proofs.Noting
pub use Rattle.proof_giving.proofs.Queueing
pub use Rattle.proof_giving.proofs.Slept
pub use Rattle.proof_giving.proofs.AnswerFacts
pub use Rattle.proof_following.proofs.proof_notes_Along
pub use Rattle.proof_following.proofs.proof_notes_Walking
pub use Rattle.proof_giving.proofs.proof_queue_Segments
pub use Rattle.proof_giving.proofs.SeriesGoes
pub use Rattle.proof_giving.proofs.KeptAwake
pub use Rattle.proof_giving.proofs.proof_requests_Doing
pub use Rattle.proof_giving.proofs.Spelled
pub use Rattle.proof_giving.proofs.proof_requests_Growing
pub use Rattle.proof_giving.proofs.proof_requests_Standing
pub use Rattle.proof_giving.proofs.proof_attempts_Ending
pub use Rattle.proof_giving.proofs.proof_requests_Ended
pub use Rattle.proof_giving.proofs.EndsLate
pub use Rattle.proof_giving.proofs.OnLine
pub use Rattle.proof_giving.proofs.Nodes
pub use Rattle.proof_giving.proofs.Ordered
pub use Rattle.proof_giving.proofs.proof_sending_Grounds
