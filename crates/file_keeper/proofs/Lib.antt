mod Splits
mod Written
mod Drawers
