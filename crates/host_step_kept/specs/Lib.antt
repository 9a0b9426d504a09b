pub mod Choices
pub mod Opening
pub mod Restoring
