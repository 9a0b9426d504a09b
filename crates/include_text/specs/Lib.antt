pub mod Line
pub mod Entry
