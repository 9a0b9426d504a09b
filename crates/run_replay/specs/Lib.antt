pub mod Machine
pub mod Lines
pub mod Asking
pub mod Replay
pub mod Listing
