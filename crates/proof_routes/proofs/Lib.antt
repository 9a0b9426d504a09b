mod Members
mod Links
mod Tables
pub mod Books
pub mod Walks
pub mod Turned
mod Unrefused
mod Ties
mod Leaving
mod Coming
mod Outer
mod Setting
mod Remembering
mod Listeners
pub mod First
pub mod Passages
mod Sending
mod Mute
pub mod Arriving
pub mod Saying
mod Walking
mod Forgetting
