pub mod Calls
pub mod Updates
