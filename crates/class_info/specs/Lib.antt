pub mod Values
pub mod InfoSpelling
pub mod InfoReading
