pub mod Listed
pub mod PropertyOrder
pub mod PropertyWord
pub mod Faults
pub mod Supply
pub mod Store
pub mod Crc
