pub mod State
pub mod Answers
pub mod Effects
pub mod Hearing
pub mod Ticking
pub mod Showing
pub mod Kinds
pub use Rattle.device_kinds.specs as device_kinds
