pub mod Words
pub mod Forms
pub mod Fields
pub mod Texts
