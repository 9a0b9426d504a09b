mod Places
mod Attempts
mod Nodes
mod Requests
mod Ending
pub mod Hosts
mod Meaning
mod Starting
mod Pumping
pub mod Doing
mod Leaving
mod OnLine
mod Tasks
mod Told
mod Machines
mod Phases
pub use Rattle.proof_walk.proofs.HostOuts
pub use Rattle.proof_walk.proofs.Shown
pub use Rattle.proof_walk.proofs.HostNotes
pub use Rattle.proof_walk.proofs.Untimed
pub use Rattle.proof_walk.proofs.Bodies
pub use Rattle.proof_walk.proofs.ByLine
pub use Rattle.proof_walk.proofs.Machines as proof_walk_Machines
pub use Rattle.proof_walk.proofs.Where
pub use Rattle.proof_walk.proofs.Times
pub use Rattle.proof_walk.proofs.Lines
pub use Rattle.proof_walk.proofs.Results
pub use Rattle.proof_walk.proofs.Lists
pub use Rattle.law_time.proofs.Computing
pub use Rattle.proof_walk.proofs.Commands
