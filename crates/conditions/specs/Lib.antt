pub mod Meeting
pub mod Uses
