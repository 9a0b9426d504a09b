pub mod Cuts
mod Pushed
pub mod Views
pub mod Accepts
pub mod Follows
mod Grouped
pub mod Changed
mod Listed
