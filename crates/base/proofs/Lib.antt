pub mod Tests
pub mod Lists
pub mod Options
pub mod Turns
pub mod Places
pub mod Arrays
pub mod Bytes
