pub mod Mesh
pub mod Laws
pub mod Sim
pub mod RestartReads
pub mod Generate
pub mod Lives
pub mod Port
pub mod Replay
pub mod Include
pub mod All
pub use Rattle.run_all.specs as run_all
