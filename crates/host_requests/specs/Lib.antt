pub mod Frames
pub mod State
pub mod Next
pub mod Events
pub mod Facts
pub mod Interviews
pub mod Inside
