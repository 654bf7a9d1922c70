pub mod Judged
pub mod Outcomes
pub mod Counts
pub mod Deciding
pub mod Theorems
