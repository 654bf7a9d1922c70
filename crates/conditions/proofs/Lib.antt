pub mod Stands
pub mod Sought
pub mod Nothing
pub mod Clauses
pub mod Meeting
pub mod Turns
