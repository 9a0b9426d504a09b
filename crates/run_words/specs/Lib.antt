pub mod Commands
pub mod Asked
pub mod Valid
pub mod Parsing
