pub mod EndsLemmas
pub mod OnceLemmas
pub mod OnceLaws
