mod Nonces
pub mod Flies
mod Settled
pub mod Picks
