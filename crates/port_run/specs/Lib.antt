pub mod Lines
pub mod Steps
pub mod Schedule
pub mod Serving
pub mod Ending
pub mod Quiet
pub use Rattle.host_core.specs as host_core
