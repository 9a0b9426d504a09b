pub mod Scenes
pub mod Hosting
pub mod Routes
pub mod Bytes
pub mod Passing
pub mod Turns
