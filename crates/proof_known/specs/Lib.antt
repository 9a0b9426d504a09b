pub mod Known
pub mod Noted
pub mod WorkedNotes
pub use Rattle.proof_transcript.specs.law_host as law_host
pub use Rattle.proof_waking.specs.proof_alone as proof_alone
pub use Rattle.proof_waking.specs as proof_waking
pub use Rattle.proof_transcript.specs as proof_transcript
