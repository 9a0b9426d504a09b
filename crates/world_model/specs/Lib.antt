pub mod State
pub mod Refusals
pub mod Events
pub mod Did
pub mod Settling
pub mod Ticking
pub mod Lines
pub mod Prefixes
pub mod Table
pub use Rattle.host_model.specs as host_model
pub use Rattle.host_model.specs.host_requests
pub use Rattle.outside_model.specs as outside_model
pub use Rattle.outside_model.specs.device_sim as device_sim
pub use Rattle.outside_model.specs.mesh_sim as mesh_sim
pub use Rattle.outside_model.specs.chip_sim as chip_sim
pub use Rattle.host_model.specs.host_node as host_node
pub use Rattle.outside_model.specs.serial_pipes as serial_pipes
pub use Rattle.outside_model.specs.device_kinds as device_kinds
pub use Rattle.host_model.specs.host_keep
