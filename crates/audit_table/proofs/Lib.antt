mod Drops
mod Ordered
mod Knows
mod TableLines
pub mod Closes
mod Maps
mod Marks
