pub mod EventLists
pub mod Own
pub use Rattle.chip_sim.proofs.Steps
pub use Rattle.chip_sim.proofs.EventLists as chip_sim_EventLists
