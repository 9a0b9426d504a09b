pub mod State
pub mod Chip
pub mod Results
pub mod Air
pub mod Devices
pub mod Nodes
pub mod Events
pub mod Did
pub mod Schedules
pub use Rattle.mesh_sim.specs.device_sim as device_sim
pub use Rattle.mesh_sim.specs as mesh_sim
pub use Rattle.chip_sim.specs as chip_sim
pub use Rattle.serial_pipes.specs as serial_pipes
pub use Rattle.mesh_sim.specs.device_kinds as device_kinds
