pub mod EndedItems
pub mod ChangedUnits
pub mod Ways
pub mod ChipFrames
pub mod Frames
pub mod ChipWays
pub mod ChipMoves
pub mod Outer
pub mod Events
pub mod Schedules
pub mod Units
pub mod First
pub mod Texts
pub mod HostFits
pub mod HostRuns
pub use Rattle.world_model.proofs.host_model_EventLists as EventLists
