pub mod Restarts
pub mod Devices
pub mod Lines
pub mod Asking
pub use Rattle.proof_device.specs.GoingOn
pub use Rattle.proof_host.specs.host_model as host_model
pub use Rattle.proof_serial.specs as proof_serial
pub use Rattle.world_lines.specs as world_lines
pub use Rattle.proof_host.specs.device_sim as device_sim
