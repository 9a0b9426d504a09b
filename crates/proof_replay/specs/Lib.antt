pub mod Heard
pub mod Linked
pub mod Laws
pub mod HostSteps
pub use Rattle.proof_asking.specs.proof_sending as proof_sending
pub use Rattle.proof_noting.specs.proof_choice.proof_ends.proof_notes.Full as proof_notes_Full
pub use Rattle.proof_noting.specs.proof_choice.proof_ends.proof_notes.Unkept as proof_notes_Unkept
pub use Rattle.proof_noting.specs.proof_choice.proof_ends.Ends as proof_ends_Ends
pub use Rattle.proof_noting.specs.proof_choice.proof_ends.proof_nonces.Giving as proof_nonces_Giving
pub use Rattle.proof_noting.specs.proof_choice.proof_ends.proof_nonces.Sealing as proof_nonces_Sealing
pub use Rattle.proof_noting.specs.proof_choice.proof_ends.proof_rests.Undone as proof_rests_Undone
