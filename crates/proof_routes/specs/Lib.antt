pub mod Networks
pub mod Knowing
pub mod Forgetting
