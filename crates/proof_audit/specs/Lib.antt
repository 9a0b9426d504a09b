pub mod Legible
pub mod Books
pub mod Frames
pub mod Tables
pub mod Rules
pub mod Whole
pub mod Headline
pub mod Transcript
