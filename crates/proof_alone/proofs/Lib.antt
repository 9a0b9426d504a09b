pub use Rattle.proof_line.proofs.Always
pub mod Running
pub mod Since
pub mod Carefully
pub mod Stamps
pub mod Coming
mod Changing
mod Others
pub mod Hosting
mod Reading
mod ReadingLines
mod ReadingWalk
mod Words
mod Hearing
pub mod Apart
pub mod Timing
pub mod InOrder
pub mod Tabling
pub mod Answering
pub mod Carrying
pub mod Listening
mod TablesSince
mod Storied
pub use Rattle.proof_line.proofs.HostOuts
pub use Rattle.proof_line.proofs.Bodies
pub use Rattle.proof_line.proofs.Untimed
pub use Rattle.proof_line.proofs.HostNotes
pub use Rattle.proof_line.proofs.Parts
pub use Rattle.proof_line.proofs.Calm
pub use Rattle.proof_line.proofs.HostLinks
pub use Rattle.proof_line.proofs.Own
pub use Rattle.proof_line.proofs.Submitted
pub use Rattle.proof_line.proofs.host_model_EventLists as EventLists
pub use Rattle.proof_line.proofs.ChipNotices
pub use Rattle.proof_line.proofs.Flights
pub use Rattle.proof_line.proofs.Outside
pub use Rattle.proof_line.proofs.CourseSteps
pub use Rattle.proof_line.proofs.ArrivedFrames
pub use Rattle.proof_line.proofs.Arrivals
pub use Rattle.proof_line.proofs.Lists
pub use Rattle.proof_line.proofs.Hosting as proof_line_Hosting
