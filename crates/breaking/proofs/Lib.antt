pub mod Clauses
pub mod Once
pub mod Sizes
pub mod Filling
pub mod Fitting
pub mod Ahead
pub mod Chosen
pub mod Breaking
