pub mod Lines
pub mod Numbers
pub mod Taken
pub mod PlainWords
pub mod Generate
pub mod HostWords
pub mod ValidWords
