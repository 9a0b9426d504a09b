pub mod Changed
pub mod Feeding
pub mod First
pub mod Moving
pub mod Streams
pub mod Sums
