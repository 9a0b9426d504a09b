pub mod Standing
pub mod Carrying
pub mod Asking
pub mod Effects
pub mod Saying
pub mod Walking
pub mod Ends
pub use Rattle.proof_waking.specs.law_host as law_host
pub use Rattle.proof_waking.specs.proof_alone as proof_alone
pub use Rattle.proof_waking.specs as proof_waking
pub use Rattle.proof_messages.specs.host_model as host_model
pub use Rattle.proof_messages.specs as proof_messages
