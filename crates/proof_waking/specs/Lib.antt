pub mod Judged
pub use Rattle.proof_alone.specs.law_host as law_host
pub use Rattle.proof_alone.specs as proof_alone
pub use Rattle.proof_alone.specs.proof_traffic as proof_traffic
pub use Rattle.proof_alone.specs.proof_walk as proof_walk
pub use Rattle.proof_alone.specs.law_time as law_time
pub use Rattle.proof_alone.specs.law_transcript as law_transcript
pub use Rattle.proof_alone.specs.proof_host as proof_host
pub use Rattle.proof_alone.specs.world_lines as world_lines
pub use Rattle.proof_alone.specs.world_model as world_model
pub use Rattle.host_model.specs as host_model
