pub mod Session
pub mod Host
pub mod Device
pub mod Ends
pub mod Once
