pub use Rattle.world_model.proofs.Along
pub use Rattle.world_model.proofs.Pieces
pub use Rattle.world_model.proofs.outside_model_EventLists as EventLists
