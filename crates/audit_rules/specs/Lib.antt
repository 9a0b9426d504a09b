pub mod Ticks
pub mod AirRule
pub mod Flying
pub mod KeepingFrames
pub mod PayloadRule
pub mod Sending
pub mod KeepingPayloads
