pub mod Writing
pub mod Solving
pub mod Answering
