pub mod State
pub mod Events
