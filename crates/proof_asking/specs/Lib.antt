pub mod Asking
pub mod Numbers
pub use Rattle.proof_known.specs as proof_known
pub use Rattle.proof_sending.specs as proof_sending
pub use Rattle.proof_requests.specs as proof_requests
pub use Rattle.proof_sending.specs.proof_line as proof_line
