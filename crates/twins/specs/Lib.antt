pub mod Pairs
pub mod Twins
pub mod Records
pub mod Marks
pub mod Uses
