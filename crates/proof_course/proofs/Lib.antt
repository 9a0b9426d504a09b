mod Lists
pub mod Parts
mod FramesOnAir
mod SessionEnds
mod SessionSteps
mod SessionFactsKept
mod NonceNumbers
mod NodeNonceSteps
mod HostNonceSteps
