pub mod Growing
pub mod Standing
pub mod Line
pub mod Judging
pub mod Ended
pub mod OnLine
pub mod UnderWay
pub mod Saying
pub mod Doing
mod Moving
pub mod Events
pub mod Telling
pub mod Spelled
pub mod Carried
mod Came
pub mod Queued
pub mod Queueing
pub mod Walking
pub mod Stepping
pub mod Ending
mod Grounds
mod Brought
mod Listening
pub mod EndsDone
pub mod EndsHere
pub mod EndsLate
pub mod Untold
pub mod EndsTold
pub mod Questions
pub mod Interviews
pub use Rattle.proof_waking.proofs.HostOuts
pub use Rattle.proof_waking.proofs.Running
pub use Rattle.proof_waking.proofs.Carefully
pub use Rattle.proof_waking.proofs.Coming
pub use Rattle.proof_waking.proofs.Hosting
pub use Rattle.proof_waking.proofs.Stamps
pub use Rattle.proof_waking.proofs.InOrder
pub use Rattle.proof_waking.proofs.Always as proof_waking_Always
pub use Rattle.proof_waking.proofs.Answering as proof_waking_Answering
pub use Rattle.proof_waking.proofs.Apart as proof_waking_Apart
pub use Rattle.proof_waking.proofs.Carrying as proof_waking_Carrying
pub use Rattle.proof_waking.proofs.Followed as proof_waking_Followed
pub use Rattle.proof_waking.proofs.Judging as proof_waking_Judging
pub use Rattle.proof_waking.proofs.Listening as proof_waking_Listening
pub use Rattle.proof_waking.proofs.Parts as proof_waking_Parts
pub use Rattle.proof_waking.proofs.Settling as proof_waking_Settling
pub use Rattle.proof_waking.proofs.proof_alone_Apart
pub use Rattle.proof_waking.proofs.Timing
pub use Rattle.proof_messages.proofs.Submitted
pub use Rattle.proof_messages.proofs.Own
pub use Rattle.proof_messages.proofs.SealedByNumber
pub use Rattle.proof_messages.proofs.SealedTexts
