pub mod Picking
mod Dropping
mod Submitting
mod Posting
pub mod Telling
pub mod Growing
pub mod Learning
pub mod Covering
pub mod Ordering
mod Agreeing
pub mod Airing
pub mod Quieting
mod Judging
pub mod Taking
pub mod Turning
pub mod Standing
pub mod Replying
pub mod Reckoning
pub mod Tallying
pub mod Fating
pub mod Opening
pub mod Coming
pub mod Numbering
pub mod Owing
pub mod Answered
pub mod Requesting
pub mod Passing
pub mod Settling
pub mod Payloads
pub mod Judged
pub mod Asides
pub mod Tallied
pub mod Resting
pub mod Giving
mod Stamped
pub mod Hearing
pub mod Finishing
pub mod Arriving
pub mod Totals
pub mod Replied
pub mod Leaving
mod Bringing
pub mod Going
mod Homing
mod Following
pub mod Beginning
pub mod Staying
mod Acting
pub mod Keeping
pub mod Judges
pub mod Putting
pub mod Looking
pub mod Answering
pub mod Items
pub mod Mild
pub mod Airs
mod Members
mod Grounds
pub mod Served
pub mod Incoming
pub mod Landed
pub mod Hosted
pub mod Outsides
pub mod Tallies
pub mod Calling
pub mod Steady
mod CallWalk
mod Told
mod ToldWalk
pub use Rattle.proof_line.proofs.HeldRecords
pub use Rattle.proof_line.proofs.FactsKept
pub use Rattle.proof_line.proofs.Notes
pub use Rattle.proof_line.proofs.ChipAccounts
pub use Rattle.proof_line.proofs.Parts
pub use Rattle.proof_line.proofs.Outside
pub use Rattle.proof_line.proofs.Arrivals
pub use Rattle.proof_line.proofs.LinkEnds
pub use Rattle.proof_line.proofs.LinkWalk
pub use Rattle.proof_line.proofs.ArrivedFrames
pub use Rattle.proof_line.proofs.ChipNotices
pub use Rattle.proof_line.proofs.Flights
pub use Rattle.proof_line.proofs.SpokenLines
pub use Rattle.proof_line.proofs.LinkSome
pub use Rattle.proof_line.proofs.Colliding
pub use Rattle.proof_air.proofs.SentBefore
pub use Rattle.proof_air.proofs.Clock
pub use Rattle.proof_line.proofs.HostTelling
pub use Rattle.proof_line.proofs.LinkEvents
pub use Rattle.proof_line.proofs.LinkTime
pub use Rattle.proof_line.proofs.Standing as proof_line_Standing
pub use Rattle.proof_line.proofs.Moments
pub use Rattle.proof_line.proofs.LinkSteps
pub use Rattle.proof_air.proofs.Where
pub use Rattle.proof_air.proofs.Over
pub use Rattle.proof_air.proofs.ByLine
pub use Rattle.proof_air.proofs.Lines
pub use Rattle.proof_air.proofs.Shown
pub use Rattle.proof_air.proofs.Alone
pub use Rattle.proof_air.proofs.Untimed
pub use Rattle.proof_air.proofs.LandingWalk
