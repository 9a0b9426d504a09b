pub mod Purposes
pub mod FactsKept
pub mod Ending
pub mod Handing
