mod Shown
pub mod Succeeding
mod Running
mod Heading
pub mod Unasked
pub mod Opening
pub mod Knowing
pub mod Carrying
pub mod PlainTying
pub mod LockTying
pub mod Sorting
pub use Rattle.proof_spoken.proofs.Entering
pub use Rattle.proof_spoken.proofs.Others
pub use Rattle.proof_spoken.proofs.ShownChanges
pub use Rattle.proof_spoken.proofs.ChangesOutside
pub use Rattle.proof_spoken.proofs.KeptKinds
