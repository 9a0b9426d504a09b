pub mod Spoken
pub mod Said
pub mod Interviews
pub use Rattle.proof_world.specs.Devices
pub use Rattle.proof_world.specs.Restarts
pub use Rattle.proof_world.specs.Asking
pub use Rattle.proof_world.specs.Lines
pub use Rattle.proof_once.specs.proof_device as proof_device
pub use Rattle.proof_once.specs as proof_once
pub use Rattle.proof_world.specs.proof_serial as proof_serial
pub use Rattle.proof_once.specs.proof_messages as proof_messages
pub use Rattle.proof_world.specs as proof_world
