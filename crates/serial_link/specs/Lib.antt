pub mod Calls
pub mod Inside
pub mod Rules
pub mod State
