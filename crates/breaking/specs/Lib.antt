pub mod Breaking
pub mod Places
pub mod Uses
