pub mod KeptKinds
pub mod MovedDevices
pub mod DevicePlaces
pub mod Once
pub mod Entered
pub mod Results
pub mod Entering
pub mod Others
pub mod HostOuts
mod HostOthers
pub mod ChangesOutside
pub mod Told
pub mod ShownChanges
mod Among
pub use Rattle.world_model.proofs.EventLists
pub use Rattle.world_model.proofs.outside_model_EventLists
pub use Rattle.world_model.proofs.Pieces
pub use Rattle.world_model.proofs.Along
pub use Rattle.world_model.proofs.Hosting
