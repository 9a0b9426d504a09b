pub mod Ways
pub mod Meaning
pub mod Air
pub mod Making
pub mod Device
pub mod Mesh
pub mod Lines
pub mod Chip
pub mod Outside
pub mod Host
pub mod Told
pub mod HostGoing
pub mod World
pub mod Judged
pub use Rattle.proof_once.specs.Tied
pub use Rattle.proof_once.specs.Truly
pub use Rattle.proof_traffic.specs.Flights
pub use Rattle.proof_traffic.specs.OnAir
pub use Rattle.proof_traffic.specs.OutsideTraffic
pub use Rattle.proof_world.specs.Restarts
pub use Rattle.proof_traffic.specs.proof_device as proof_device
pub use Rattle.proof_once.specs.proof_host as proof_host
pub use Rattle.proof_world.specs.proof_serial as proof_serial
