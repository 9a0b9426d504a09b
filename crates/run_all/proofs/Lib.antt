pub mod Asked
pub use Rattle.run_replay.proofs.EventLists
