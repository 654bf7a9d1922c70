pub mod Databases
pub mod Pairing
pub mod Rows
pub mod Pairs
pub mod Listing
