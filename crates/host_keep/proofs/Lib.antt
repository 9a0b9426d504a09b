mod RowTexts
pub mod RowsBack
mod BytesSoFar
mod Packing
pub mod NumbersFound
pub mod RecordLists
