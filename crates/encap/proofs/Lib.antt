pub mod BatchLemmas
pub mod OpenLemmas
pub mod WrapLemmas
pub mod ExactLemmas
pub mod FormLemmas
pub mod OpenedLemmas
