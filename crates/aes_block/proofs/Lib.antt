pub mod Columns
pub mod Inverses
pub mod Products
pub mod ScheduleLemmas
pub mod Tables
