pub mod Reached
pub mod Uses
