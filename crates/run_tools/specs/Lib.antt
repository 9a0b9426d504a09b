pub mod Input
pub mod Check
pub mod Events
