pub mod ModesLemmas
pub mod StreamLemmas
pub mod MessageLemmas
pub mod OpeningLemmas
pub mod SealingLemmas
