pub mod Spelling
pub mod MessageReading
pub mod Ranges
pub mod Cell
pub mod Fields
pub mod Reading
