pub mod Comings
pub mod Computing
pub mod Deciding
pub mod Entries
pub mod Having
mod Dues
mod Ciphering
pub mod Sealing
mod Headlines
pub use Rattle.device_sim.proofs.LawLemmas
pub use Rattle.host_keep.proofs.RecordLists
pub use Rattle.host_keep.proofs.RowsBack
