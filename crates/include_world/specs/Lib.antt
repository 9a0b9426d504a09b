pub mod Units
pub mod Air
pub mod World
pub mod Line
pub mod Added
