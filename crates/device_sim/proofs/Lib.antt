pub mod LawLemmas
pub mod OrderLemmas
pub mod NonceLemmas
