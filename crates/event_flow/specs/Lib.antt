pub mod Line
pub mod Entry
pub mod State
pub mod Steps
pub mod Inside
pub mod Flow
pub mod Fits
