pub mod State
pub mod Steps
pub mod Phases
pub mod Runs
pub mod Careful
pub mod Reading
pub mod Time
pub mod Tables
pub mod Words
pub mod Answering
pub mod Listening
pub mod Starts
pub use Rattle.law_host.specs as law_host
pub use Rattle.law_host.specs.law_time as law_time
pub use Rattle.law_host.specs.law_transcript as law_transcript
pub use Rattle.proof_line.specs.proof_device as proof_device
pub use Rattle.proof_line.specs.proof_traffic as proof_traffic
pub use Rattle.proof_line.specs.proof_walk as proof_walk
pub use Rattle.proof_line.specs.world_lines as world_lines
pub use Rattle.proof_line.specs.world_model as world_model
pub use Rattle.law_host.specs.device_sim as device_sim
pub use Rattle.proof_line.specs.host_model as host_model
pub use Rattle.proof_line.specs.proof_host as proof_host
