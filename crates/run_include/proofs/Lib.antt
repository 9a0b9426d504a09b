pub mod IncludePieces
pub mod IncludeRun
