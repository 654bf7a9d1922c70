pub mod Found
pub mod Uses
pub mod Verdict
