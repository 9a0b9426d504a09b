mod Joining
mod Solid
mod SaidWords
pub mod Stories
pub mod RestartReads
pub mod SimKeeping
pub mod Reading
pub mod Speaking
pub mod Unread
pub mod Told
pub mod Unentered
pub mod Further
pub mod Tables
pub mod AsSaid
mod Legally
mod InTime
mod Meshed
pub mod ReadBack
mod KeptRules
pub mod Generated
pub mod Stepping
pub mod Living
pub mod HostKeeping
pub mod Succeeding
pub mod Entering
mod ReplayWords
mod PortWords
mod PortHearing
pub mod Replaying
pub mod Recording
pub mod Including
