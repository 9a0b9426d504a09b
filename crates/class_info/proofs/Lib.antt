pub mod OwnLaws
pub mod InfoLaws
pub mod FormLaws
