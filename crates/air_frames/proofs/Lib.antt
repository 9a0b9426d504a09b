pub mod Kept
pub mod Logs
pub mod Counted
pub mod Aged
