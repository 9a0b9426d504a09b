pub mod Lists
pub mod Worded
