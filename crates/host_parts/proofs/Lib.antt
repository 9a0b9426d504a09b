pub mod Answered
pub mod Cut
pub mod Ending
pub mod Prefix
pub mod Judged
pub mod Outcomes
pub mod Restarted
