pub mod Sure
pub mod Following
pub mod Behind
pub mod Ticking
pub mod Noting
pub mod Ground
pub mod Steps
pub mod Parts
pub mod Starts
pub use Rattle.proof_hearing.specs.proof_choice as proof_choice
pub use Rattle.proof_hearing.specs as proof_hearing
