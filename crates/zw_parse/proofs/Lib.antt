pub mod Pieces
pub mod Words
pub mod Back
pub mod EntryLaws
