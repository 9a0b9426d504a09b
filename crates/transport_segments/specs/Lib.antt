pub mod Segment
pub mod Parts
pub mod Faults
pub mod Places
pub mod Kept
pub mod Reassembly
pub mod Taking
pub mod Runs
