pub mod Scenes
pub mod Asking
pub mod KeeperLines
pub mod Listing
pub mod Restarts
pub mod Steps
