pub mod MessageLaws
pub mod FormLaws
pub mod Steps
pub mod FieldLaws
pub mod ListSteps
pub mod WrittenLaws
pub mod Heads
