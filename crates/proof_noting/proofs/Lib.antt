pub mod Surely
pub mod Lately
pub mod Quietly
pub mod Choosing
mod Fitted
mod Followed
mod Marks
mod JudgedFrame
mod Grounding
mod Whole
mod InFront
mod InFull
mod KeptNonces
mod KeptBooks
mod Starting
mod TickLeaves
mod LeftBooks
mod TickChosen
mod Ascending
mod TickEnds
mod TickEnded
mod TickNoted
mod TickGround
mod TickNodes
mod TickRequests
mod TickLines
mod TickSteps
mod Aborts
mod AsksSealed
mod Sendings
mod Requested
mod Becoming
mod Going
mod Leaving
mod Onwards
mod Others
mod Lines
mod Begun
mod Rested
mod NewlyAsked
mod NewRequests
mod StartsAgain
pub use Rattle.proof_hearing.proofs.HostNotes
pub use Rattle.proof_hearing.proofs.Times
mod Followers
mod Unopened
mod Acknowledged
mod PayloadMiddle
mod PayloadJudged
mod PayloadEvent
mod PayloadOver
mod PayloadFits
mod ByAnswers
mod ByRefusals
mod EndLeaves
mod EndCourse
mod EndNotes
mod EndedBooks
mod FramesGo
mod GoneSo
mod ItemsFit
mod ItemsGo
