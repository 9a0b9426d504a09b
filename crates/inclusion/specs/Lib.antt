pub mod Sealing
pub mod Messages
pub mod Joining
pub mod Including
