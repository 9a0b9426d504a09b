pub mod Serving
pub mod Bringing
pub mod WorkedBringing
pub mod Knowing
pub mod Sending
pub mod Calling
pub mod Tally
pub mod Staying
pub mod Told
pub mod Served
pub use Rattle.proof_line.specs.proof_world as proof_world
pub use Rattle.proof_line.specs as proof_line
