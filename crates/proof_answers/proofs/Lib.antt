mod Lists
mod Informing
mod Accounts
mod Due
mod Entering
mod Standing
mod Waiting
mod Moving
mod Landing
mod Ending
mod Hearing
mod Repeating
mod Arriving
mod Owning
mod Landed
mod Giving
mod Asking
mod Judging
mod Itemwise
mod Walk
mod Information
mod Written
mod First
pub use Rattle.proof_chip.proofs.HeldRecords
pub use Rattle.proof_chip.proofs.FactsKept
pub use Rattle.proof_chip.proofs.Notes
pub use Rattle.proof_devices.proofs.LastLine
