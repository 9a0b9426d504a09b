pub mod Places
mod Listing
pub mod Events
mod Hearing
mod Knowing
pub mod Saying
pub mod Telling
mod Showing
mod Recording
mod Answering
pub mod ForHost
pub mod KeptKeys
pub mod Followers
pub mod Noting
pub use Rattle.proof_waking.proofs.Running
pub use Rattle.proof_transcript.proofs.AttemptStarts
pub use Rattle.proof_transcript.proofs.ServedNodes
pub use Rattle.proof_transcript.proofs.Bodies
pub use Rattle.proof_transcript.proofs.Keeping
pub use Rattle.proof_transcript.proofs.proof_device_HostOuts
pub use Rattle.proof_transcript.proofs.Lists
pub use Rattle.proof_transcript.proofs.StoredValues
pub use Rattle.proof_transcript.proofs.AnswerFacts
pub use Rattle.proof_waking.proofs.Always
pub use Rattle.proof_waking.proofs.proof_alone_Apart
pub use Rattle.proof_waking.proofs.Settling
pub use Rattle.proof_waking.proofs.Followed
pub use Rattle.proof_waking.proofs.Apart
pub use Rattle.proof_waking.proofs.Parts
pub use Rattle.proof_waking.proofs.proof_line_Hosting
pub use Rattle.proof_transcript.proofs.Ordered
pub use Rattle.proof_transcript.proofs.Answering as proof_transcript_Answering
