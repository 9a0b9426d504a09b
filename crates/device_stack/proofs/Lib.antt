pub mod ShowingLemmas
pub mod NonceLemmas
