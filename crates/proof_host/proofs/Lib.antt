pub mod Lists
pub mod Commands
pub mod Views
mod Owned
mod Effect
pub mod Values
pub mod Effects
mod InOrder
mod CommandEnds
mod WaitingCommands
mod Shown
mod Stored
pub mod Confirmed
mod EntryOrder
mod FactsKept
mod Restarts
pub mod HostsFromRecords
mod FromRecords
pub mod Over
pub use Rattle.host_model.proofs.Silence
pub use Rattle.host_model.proofs.Submitted
pub use Rattle.law_transcript.proofs.Deciding
pub use Rattle.host_model.proofs.Values as host_model_Values
pub use Rattle.law_transcript.proofs.Having
pub use Rattle.host_model.proofs.EventLists
pub use Rattle.host_model.proofs.Recorded
pub use Rattle.host_model.proofs.Own
pub use Rattle.host_model.proofs.Numbered
pub use Rattle.host_model.proofs.Pumps
pub use Rattle.host_model.proofs.Rising
pub use Rattle.host_model.proofs.Begun
pub use Rattle.host_model.proofs.Ended
pub use Rattle.host_model.proofs.OpenSessions
pub use Rattle.host_model.proofs.Counts
pub use Rattle.host_model.proofs.Legal
pub use Rattle.host_model.proofs.RestoredFacts
