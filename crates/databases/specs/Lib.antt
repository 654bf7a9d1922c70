pub mod Databases
pub mod Listing
pub mod Uses
