pub mod Way
pub mod Chip
pub mod Line
pub mod Units
pub mod Host
pub use Rattle.world_model.specs.host_model as host_model
pub use Rattle.world_model.specs.device_kinds as device_kinds
