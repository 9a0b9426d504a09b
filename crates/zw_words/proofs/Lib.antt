pub mod Choices
pub mod WordLemmas
pub mod NumberLemmas
pub mod FormLaws
pub mod FieldLaws
