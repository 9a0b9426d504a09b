pub mod OrdersGiven
pub mod StoreRule
pub mod TableRule
pub mod Knowing
pub mod Keeping
