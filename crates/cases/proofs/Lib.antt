pub mod Conditions
pub mod Solving
pub mod Decide
pub mod Theorems
