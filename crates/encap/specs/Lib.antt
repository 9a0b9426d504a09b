pub mod Begins
pub mod Wraps
pub mod Layers
pub mod Opening
pub mod Faults
pub mod Written
