pub mod Told
pub mod Lines
pub mod Fares
pub mod Records
pub mod Answering
pub mod Showing
pub mod Carrying
pub use Rattle.proof_spoken.specs.Said
pub use Rattle.proof_spoken.specs.Spoken
pub use Rattle.proof_spoken.specs.Devices
pub use Rattle.proof_spoken.specs.Restarts
pub use Rattle.law_host.specs as law_host
pub use Rattle.proof_air.specs.proof_host as proof_host
pub use Rattle.proof_spoken.specs.proof_once as proof_once
pub use Rattle.proof_spoken.specs as proof_spoken
pub use Rattle.proof_air.specs.proof_walk as proof_walk
pub use Rattle.law_host.specs.law_time as law_time
pub use Rattle.law_host.specs.law_transcript as law_transcript
pub use Rattle.proof_air.specs.law_wire as law_wire
pub use Rattle.proof_air.specs.world_model as world_model
