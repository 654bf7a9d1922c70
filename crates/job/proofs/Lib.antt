pub mod Meaning
pub mod Equal
pub mod Derived
pub mod Defaults
pub mod Tidy
pub mod Records
pub mod Declared
pub mod Counts
