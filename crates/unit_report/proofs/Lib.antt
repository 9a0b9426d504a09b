pub mod HexLemmas
pub mod Lines
pub mod Texts
