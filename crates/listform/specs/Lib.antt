pub mod Form
pub mod Uses
