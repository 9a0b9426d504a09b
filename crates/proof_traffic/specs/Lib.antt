pub mod Requests
pub mod Facts
pub mod HostTraffic
pub mod Flights
pub mod OutsideTraffic
pub mod OnAir
pub mod Course
pub mod Links
pub use Rattle.proof_device.specs as proof_device
