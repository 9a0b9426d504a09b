pub mod Living
pub mod LastLine
pub mod Answering
pub mod Meeting
pub mod Acks
pub use Rattle.proof_air.specs as proof_air
pub use Rattle.proof_air.specs.proof_device as proof_device
pub use Rattle.proof_routes.specs as proof_routes
