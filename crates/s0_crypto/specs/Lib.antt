pub mod Modes
pub mod Seal
pub mod Opening
pub mod Sealing
