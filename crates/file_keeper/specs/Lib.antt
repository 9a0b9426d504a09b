pub mod Lines
pub mod Holding
pub mod Drawer
pub mod Inside
