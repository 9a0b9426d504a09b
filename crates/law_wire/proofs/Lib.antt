mod Apart
mod Beginnings
mod Computing
mod Crowds
mod Differing
mod Entries
mod Halting
pub mod Judging
pub mod ShownRecords
mod Linked
pub mod Listening
mod Losing
mod Machine
pub mod Moves
mod NothingHeard
mod Overspeaking
mod Parts
mod Plain
mod Rejecting
mod Replies
mod Serving
mod Silence
pub mod Walks
pub use Rattle.law_transcript.proofs.Computing as law_transcript_Computing
pub use Rattle.law_transcript.proofs.Deciding
pub use Rattle.law_transcript.proofs.Having
pub use Rattle.law_transcript.proofs.Entries as law_transcript_Entries
pub use Rattle.law_transcript.proofs.Sealing
