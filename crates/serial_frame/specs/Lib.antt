pub mod Decoder
pub mod Frame
pub mod Items
pub mod Search
pub mod Stream
