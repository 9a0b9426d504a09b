pub mod Inside
pub mod Changes
pub mod Sessions
