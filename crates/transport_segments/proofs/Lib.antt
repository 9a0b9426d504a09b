pub mod PlacesLemmas
pub mod WrittenLemmas
pub mod KeptLemmas
pub mod PartLemmas
pub mod RunLemmas
pub mod AgreeLemmas
pub mod TakingLemmas
