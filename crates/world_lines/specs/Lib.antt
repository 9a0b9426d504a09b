pub mod Spoken
pub mod Done
pub mod Whole
pub use Rattle.world_model.specs.outside_model as outside_model
pub use Rattle.world_model.specs as world_model
pub use Rattle.world_model.specs.chip_sim as chip_sim
pub use Rattle.world_model.specs.mesh_sim as mesh_sim
