pub mod EventLists
pub mod Outside
pub mod Hosting
pub mod Taking
pub mod Schedules
pub mod Pieces
pub mod Along
pub mod Listing
pub use Rattle.outside_model.proofs.EventLists as outside_model_EventLists
pub use Rattle.host_model.proofs.EventLists as host_model_EventLists
pub use Rattle.outside_model.proofs.Steps
pub use Rattle.outside_model.proofs.chip_sim_EventLists
