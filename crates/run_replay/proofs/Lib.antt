pub mod EventLists
pub mod Hosting
pub mod Asking
pub mod Steps
pub mod Listing
pub mod ReplayRun
