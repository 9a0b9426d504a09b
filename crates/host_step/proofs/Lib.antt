pub mod Kept
pub mod Done
pub mod Finished
pub mod Found
pub mod Answered
pub mod First
