pub mod Calls
pub mod EventLists
pub mod Feeding
pub mod Histories
pub mod Links
pub mod Masks
pub mod Ports
pub mod Steps
