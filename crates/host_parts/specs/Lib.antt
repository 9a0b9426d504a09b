pub mod Choices
pub mod Ending
pub mod Heard
pub mod Parts
pub mod Within
