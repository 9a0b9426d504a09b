mod Leaving
mod Telling
mod Walking
mod Sent
mod SaidDone
mod Numbering
pub use Rattle.proof_known.proofs.ForHost
pub use Rattle.proof_known.proofs.Events
pub use Rattle.proof_requests.proofs.Carefully
pub use Rattle.proof_requests.proofs.Coming
pub use Rattle.proof_requests.proofs.Hosting
pub use Rattle.proof_requests.proofs.InOrder
pub use Rattle.proof_requests.proofs.Stamps
pub use Rattle.proof_sending.proofs.HostOuts
pub use Rattle.proof_sending.proofs.Lists
pub use Rattle.proof_sending.proofs.LinkKnown
pub use Rattle.proof_sending.proofs.LinkSteps
pub use Rattle.proof_sending.proofs.Moments
pub use Rattle.proof_sending.proofs.Untimed
pub use Rattle.proof_sending.proofs.Hosting as proof_line_Hosting
pub use Rattle.proof_sending.proofs.HostTelling
pub use Rattle.proof_sending.proofs.LinkBegins
pub use Rattle.proof_sending.proofs.LinkHost
pub use Rattle.proof_sending.proofs.LinkLines
pub use Rattle.proof_sending.proofs.LinkTime
pub use Rattle.proof_sending.proofs.LinkTold
pub use Rattle.proof_sending.proofs.LinkWalk
pub use Rattle.proof_sending.proofs.Serials
pub use Rattle.proof_sending.proofs.Tellings
pub use Rattle.proof_sending.proofs.ByLine
pub use Rattle.proof_sending.proofs.Standing
