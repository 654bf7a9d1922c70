pub mod Record
pub mod Meaning
pub mod Same
