pub mod Classes
pub mod Messages
pub mod Settings
pub mod Wrapping
pub mod Refusals
pub mod Errands
