pub mod Growing
pub mod EventPieces
pub mod EventsRun
