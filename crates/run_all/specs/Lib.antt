pub mod Words
pub mod Around
pub mod Commands
pub use Rattle.host_core.specs as host_core
pub use Rattle.port_run.specs as port_run
pub use Rattle.run_generate.specs as run_generate
pub use Rattle.run_replay.specs as run_replay
pub use Rattle.run_sim.specs as run_sim
