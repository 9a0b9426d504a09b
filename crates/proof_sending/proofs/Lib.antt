mod Waiting
mod Books
mod Parts
pub mod Reasoned
mod SentUnits
pub mod Dues
pub mod AskedLines
mod HeardNonces
mod BroughtNodes
pub mod Judged
pub mod OutsideUnits
pub mod HostUnits
pub mod Arrivals
mod Growing
pub mod Telling
pub mod Grounds
pub mod Steps
pub mod Effects
mod Walking
pub use Rattle.proof_air.proofs.HostNotes
pub use Rattle.proof_air.proofs.Machines
pub use Rattle.proof_air.proofs.HostOuts
pub use Rattle.proof_line.proofs.Lists
pub use Rattle.proof_line.proofs.LinkKnown
pub use Rattle.proof_line.proofs.LinkSteps
pub use Rattle.proof_line.proofs.Moments
pub use Rattle.proof_line.proofs.Untimed
pub use Rattle.proof_line.proofs.Hosting
pub use Rattle.proof_line.proofs.HostTelling
pub use Rattle.proof_line.proofs.LinkBegins
pub use Rattle.proof_line.proofs.LinkHost
pub use Rattle.proof_line.proofs.LinkLines
pub use Rattle.proof_line.proofs.LinkTime
pub use Rattle.proof_line.proofs.LinkTold
pub use Rattle.proof_line.proofs.LinkWalk
pub use Rattle.proof_line.proofs.Serials
pub use Rattle.proof_line.proofs.Tellings
pub use Rattle.proof_line.proofs.ByLine
pub use Rattle.proof_line.proofs.Standing
pub use Rattle.proof_spoken.proofs.Hosts
