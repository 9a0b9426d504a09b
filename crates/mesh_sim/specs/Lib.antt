pub mod Devices
pub mod Faults
pub mod Routes
pub mod Air
pub mod Fates
pub mod Steps
pub use Rattle.device_sim.specs as device_sim
pub use Rattle.device_sim.specs.device_kinds as device_kinds
