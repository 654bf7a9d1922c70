pub mod Commands
pub mod Faults
pub mod Reading
pub mod Writing
pub mod Sound
