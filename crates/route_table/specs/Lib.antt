pub mod Network
pub mod Levels
pub mod NodeSet
pub mod Route
pub mod RouteTable
pub mod Walk
