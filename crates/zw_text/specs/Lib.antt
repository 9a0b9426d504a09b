pub mod Line
pub mod Entry
pub mod Fits
pub mod Transcript
