pub mod Order
pub mod Weighing
pub mod Levels
pub mod Found
