pub mod Entries
pub mod Laws
pub mod Tables
pub mod Stores
pub mod Facts
pub mod Wrong
pub mod Lives
pub mod RecordsTold
pub use Rattle.host_model.specs as host_model
pub use Rattle.law_transcript.specs as law_transcript
pub use Rattle.law_transcript.specs.device_kinds as device_kinds
pub use Rattle.law_transcript.specs.device_sim as device_sim
pub use Rattle.host_model.specs.host_node as host_node
