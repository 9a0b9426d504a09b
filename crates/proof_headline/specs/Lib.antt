pub mod Truly
pub mod Plain
pub mod Supervised
pub use Rattle.proof_spoken.specs.proof_device as proof_device
