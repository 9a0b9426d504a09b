pub mod Reasons
pub mod Due
pub mod Heard
pub mod Arriving
pub mod Knowing
pub mod Line
pub use Rattle.proof_spoken.specs as proof_spoken
pub use Rattle.proof_air.specs.proof_walk as proof_walk
pub use Rattle.proof_air.specs.proof_device as proof_device
pub use Rattle.proof_line.specs as proof_line
pub use Rattle.proof_spoken.specs.proof_world as proof_world
