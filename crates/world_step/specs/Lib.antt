pub mod Scene
pub mod Moving
pub mod Routing
