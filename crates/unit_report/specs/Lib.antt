pub mod HexText
pub mod Words
pub mod Named
pub mod Report
