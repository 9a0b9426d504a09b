pub mod Made
pub mod Summing
