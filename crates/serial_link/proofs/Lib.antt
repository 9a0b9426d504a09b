pub mod Counting
pub mod RulesKept
pub mod Lives
pub mod Taking
