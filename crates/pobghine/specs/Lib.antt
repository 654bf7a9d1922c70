pub mod Records
pub mod Deciding
