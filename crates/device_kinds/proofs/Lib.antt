pub mod NodeLemmas
pub mod CacheLemmas
pub mod PlaceLemmas
pub mod JudgingLemmas
pub mod WordedLemmas
pub mod SizeLemmas
