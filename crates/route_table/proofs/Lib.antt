mod Masks
mod Below
pub mod Networks
mod Search
mod Tables
