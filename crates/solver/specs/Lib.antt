pub mod Comparisons
pub mod Obeying
pub mod Solver
pub mod Lists
pub mod Uses
