pub mod Keeps
mod Quiet
mod Recorded
mod Lists
pub mod Searches
pub mod Words
pub mod TableLists
pub mod Follows
