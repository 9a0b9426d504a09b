mod Noting
mod Opening
mod FirstLife
pub mod WithRecords
pub use Rattle.law_time.proofs.Deciding
pub use Rattle.law_time.proofs.Having
pub use Rattle.law_time.proofs.Computing
