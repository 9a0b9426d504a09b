pub mod Logs
mod Silent
pub mod Airing
pub mod Judging
mod Outer
pub mod Hearing
pub mod Counting
pub mod Fresh
pub mod Homes
pub mod Brought
pub mod Picked
mod Ports
mod Putting
mod Bringing
pub mod Handling
pub mod SentBefore
pub mod Leaving
pub mod Fateless
pub mod Fated
pub mod LandingWalk
mod Doing
pub use Rattle.proof_walk.proofs.ByLine
pub use Rattle.proof_walk.proofs.Alone
pub use Rattle.proof_walk.proofs.Joining
pub use Rattle.proof_walk.proofs.Lines
pub use Rattle.proof_walk.proofs.Linking
pub use Rattle.proof_walk.proofs.Machines
pub use Rattle.proof_walk.proofs.Untimed
pub use Rattle.proof_walk.proofs.Times
pub use Rattle.proof_walk.proofs.Stepping
pub use Rattle.proof_walk.proofs.Clock
pub use Rattle.proof_walk.proofs.Shown
pub use Rattle.proof_walk.proofs.Over
pub use Rattle.proof_walk.proofs.Moving
pub use Rattle.proof_walk.proofs.Where
pub use Rattle.proof_walk.proofs.Bodies
pub use Rattle.proof_walk.proofs.Stamping
pub use Rattle.proof_walk.proofs.HostNotes
pub use Rattle.proof_walk.proofs.Lists
pub use Rattle.proof_walk.proofs.Effects
pub use Rattle.proof_walk.proofs.Confirmed
pub use Rattle.proof_walk.proofs.Values
pub use Rattle.proof_walk.proofs.Hosting
pub use Rattle.proof_walk.proofs.world_model_EventLists as EventLists
pub use Rattle.proof_walk.proofs.Pieces
pub use Rattle.proof_walk.proofs.Along
pub use Rattle.proof_walk.proofs.DevicePlaces
pub use Rattle.proof_walk.proofs.ChangesOutside
pub use Rattle.proof_walk.proofs.Entering
pub use Rattle.proof_walk.proofs.Entered
pub use Rattle.proof_walk.proofs.KeptKinds
pub use Rattle.proof_walk.proofs.ShownChanges
pub use Rattle.proof_walk.proofs.Results
pub use Rattle.law_wire.proofs.Having
pub use Rattle.law_wire.proofs.Deciding
pub use Rattle.proof_walk.proofs.EventLists as outside_model_EventLists
pub use Rattle.proof_walk.proofs.HostOuts
pub use Rattle.proof_walk.proofs.Pumps
pub use Rattle.proof_walk.proofs.Rising
pub use Rattle.proof_walk.proofs.Begun
pub use Rattle.proof_walk.proofs.Ended
pub use Rattle.proof_walk.proofs.OpenSessions
pub use Rattle.proof_walk.proofs.Silence
pub use Rattle.proof_walk.proofs.host_model_Values
pub use Rattle.proof_walk.proofs.Counts
pub use Rattle.proof_walk.proofs.Legal
pub use Rattle.proof_walk.proofs.Own
pub use Rattle.proof_walk.proofs.RestoredFacts
pub use Rattle.proof_walk.proofs.host_model_EventLists
