pub mod CommandsOfSessions
mod Successes
pub mod BegunCommands
pub mod Once
mod SettingValues
mod ConfirmedValues
mod InSessions
mod Ties
pub mod TieSteps
mod ShownChanges
mod ByTranscript
pub mod Headline
pub use Rattle.proof_host.proofs.Having
pub use Rattle.proof_device.proofs.outside_model_EventLists as EventLists
pub use Rattle.proof_host.proofs.Lists
pub use Rattle.proof_host.proofs.Commands
pub use Rattle.proof_device.proofs.Pieces
pub use Rattle.proof_device.proofs.Along
pub use Rattle.proof_device.proofs.Hosting
pub use Rattle.proof_device.proofs.EventLists as world_model_EventLists
pub use Rattle.proof_host.proofs.Effects
pub use Rattle.proof_host.proofs.HostsFromRecords
pub use Rattle.proof_messages.proofs.DeviceEnds
pub use Rattle.proof_messages.proofs.SessionMessages
pub use Rattle.proof_messages.proofs.Bare
pub use Rattle.proof_messages.proofs.NonceNumbers
pub use Rattle.proof_device.proofs.ChangesOutside
pub use Rattle.proof_device.proofs.Entered
pub use Rattle.proof_device.proofs.HostOuts
pub use Rattle.proof_device.proofs.Results
pub use Rattle.proof_device.proofs.DevicePlaces
pub use Rattle.proof_messages.proofs.LockSessions
pub use Rattle.proof_messages.proofs.SealedByNumber
pub use Rattle.proof_messages.proofs.SealedTexts
pub use Rattle.proof_messages.proofs.DeviceReports
pub use Rattle.proof_device.proofs.Entering
pub use Rattle.proof_device.proofs.Others
pub use Rattle.proof_device.proofs.ShownChanges as proof_device_ShownChanges
pub use Rattle.proof_device.proofs.KeptKinds
