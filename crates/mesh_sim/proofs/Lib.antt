pub mod Lists
pub mod Replies
pub mod Unique
pub mod StepLists
