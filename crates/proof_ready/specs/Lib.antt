pub mod Ease
pub mod Ready
pub mod LetIn
pub mod Stretch
pub mod Each
