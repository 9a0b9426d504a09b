pub mod Flown
pub mod Nonces
pub mod Peer
pub mod Frames
pub mod Ring
pub mod Ages
pub mod History
