pub mod Kept
mod Passes
mod Alone
