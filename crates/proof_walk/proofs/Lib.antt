pub mod Joining
mod Settling
mod Ticking
pub mod Lines
pub mod Moving
pub mod Times
pub mod Linking
pub mod HostNotes
pub mod Stamping
pub mod Machines
pub mod Stepping
pub mod ByLine
pub mod Alone
pub mod Untimed
pub mod Ending
pub mod Clock
pub mod Over
pub mod Where
pub mod Shown
pub mod Bodies
pub use Rattle.proof_device.proofs.Entered
pub use Rattle.proof_device.proofs.Results
pub use Rattle.proof_device.proofs.Entering
pub use Rattle.proof_device.proofs.ChangesOutside
pub use Rattle.proof_device.proofs.KeptKinds
pub use Rattle.proof_host.proofs.Lists
pub use Rattle.proof_device.proofs.DevicePlaces
pub use Rattle.proof_device.proofs.Along
pub use Rattle.proof_device.proofs.Pieces
pub use Rattle.proof_host.proofs.Effects
pub use Rattle.proof_device.proofs.outside_model_EventLists as EventLists
pub use Rattle.proof_device.proofs.HostOuts
pub use Rattle.proof_host.proofs.Views
pub use Rattle.proof_host.proofs.Confirmed
pub use Rattle.proof_host.proofs.Values
pub use Rattle.proof_device.proofs.Hosting
pub use Rattle.proof_device.proofs.EventLists as world_model_EventLists
pub use Rattle.proof_device.proofs.ShownChanges
pub use Rattle.proof_host.proofs.EventLists as host_model_EventLists
pub use Rattle.proof_host.proofs.Own
pub use Rattle.proof_host.proofs.Submitted
pub use Rattle.proof_host.proofs.Pumps
pub use Rattle.proof_host.proofs.Rising
pub use Rattle.proof_host.proofs.Begun
pub use Rattle.proof_host.proofs.Ended
pub use Rattle.proof_host.proofs.OpenSessions
pub use Rattle.proof_host.proofs.Silence
pub use Rattle.proof_host.proofs.host_model_Values
pub use Rattle.proof_host.proofs.Counts
pub use Rattle.proof_host.proofs.Legal
pub use Rattle.proof_host.proofs.RestoredFacts
pub use Rattle.proof_host.proofs.Commands
