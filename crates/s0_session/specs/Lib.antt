pub mod Nonces
pub mod Calls
pub mod Sending
