pub mod Lists
pub mod Options
pub mod Arrays
pub mod Bytes
