pub mod Owing
pub mod Telling
pub mod Answered
pub use Rattle.proof_chip.specs as proof_chip
pub use Rattle.proof_devices.specs as proof_devices
