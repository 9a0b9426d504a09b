pub mod ThinnedWays
pub mod CourseSteps
pub mod Meanings
pub mod UnsealedMessages
pub mod Elsewhere
pub mod LockStates
pub mod HeardPayloads
pub mod MadeSettings
mod JudgedPayloads
pub mod Flights
pub mod Replies
pub mod Arrivals
mod JudgedArrivals
pub mod Outer
pub mod OuterEvents
pub mod KeptBooks
pub mod HostFrames
pub mod HostActs
pub mod HostEvents
pub mod HostBegins
pub mod HostSteps
pub mod Notices
pub mod HostJudgements
pub mod HostNonces
pub mod HostItems
pub mod TrueSuccesses
pub mod KeptMeanings
pub mod Restarts
pub mod Whole
pub mod TrueLines
pub mod OtherAsks
pub mod Runs
pub mod Places
mod LockBeginning
mod Exchanging
pub use Rattle.proof_course_plain.proofs.AsMade
pub use Rattle.proof_course_plain.proofs.Once
