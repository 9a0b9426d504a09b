pub mod Keys
mod Sorted
mod Places
mod Kept
pub mod Reserved
mod Seen
mod Floats
mod Listed
pub mod Released
