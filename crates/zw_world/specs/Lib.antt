pub mod World
pub mod Effects
pub mod Keeping
pub mod Listing
