pub mod Sim
pub use Rattle.zw_world.specs.Keeping
pub use Rattle.zw_world.specs.World
