pub mod CrcLemmas
mod DigitLemmas
pub mod Each
pub mod Results
