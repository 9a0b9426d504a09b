pub mod Lengths
pub mod Sealed
pub mod Waiting
pub mod Restored
