mod Quiet
mod Shown
mod Joined
mod Sent
mod Keeping
mod Replies
mod Frames
pub mod Places
mod Hearing
mod Telling
mod Numbers
mod Grounds
pub mod Changes
mod Walking
mod Whole
mod Awake
mod Now
pub mod Listening
mod Together
mod Had
mod Clocks
mod AtOnce
mod Standing
mod Halting
pub mod LastLine
mod FateShown
mod Stamped
mod Again
mod Repeating
mod Following
mod Numbered
mod Fating
mod Meeting
mod FateGrounds
mod Acks
mod AcksWalk
pub use Rattle.proof_air.proofs.Times
pub use Rattle.proof_air.proofs.Homes
pub use Rattle.proof_air.proofs.Fated
pub use Rattle.proof_air.proofs.Machines
pub use Rattle.proof_air.proofs.Over
pub use Rattle.proof_air.proofs.Where
pub use Rattle.proof_air.proofs.Results
pub use Rattle.proof_air.proofs.DevicePlaces
pub use Rattle.proof_air.proofs.Entered
pub use Rattle.proof_air.proofs.ChangesOutside
pub use Rattle.proof_routes.proofs.Walks
pub use Rattle.proof_routes.proofs.Books
pub use Rattle.proof_routes.proofs.First
