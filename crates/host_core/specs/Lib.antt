pub mod Orders
pub mod Network
pub mod Opening
pub mod Recorded
pub use Rattle.host_step_bytes.specs.Calls
