pub mod Fields
pub mod LineTakes
pub mod LineAgain
pub mod TextLaws
pub mod Views
