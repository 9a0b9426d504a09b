pub mod Ending
pub mod Asking
pub mod Others
pub mod Reporting
pub mod Segments
pub mod Slices
pub mod Landing
pub mod Numbers
pub mod Payloads
pub mod Locks
pub mod Hosts
pub mod Opened
pub mod Shown
pub mod Waiting
pub use Rattle.device_sim.specs as device_sim
pub use Rattle.device_sim.specs.device_stack as device_stack
pub use Rattle.host_model.specs as host_model
