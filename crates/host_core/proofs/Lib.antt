mod Asked
mod NodeSessions
mod Loops
mod Opened
pub mod Refusing
mod Served
mod Submitted
mod Tables
mod TablesKept
