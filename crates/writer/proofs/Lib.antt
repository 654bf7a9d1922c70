pub mod Meant
pub mod Most
