pub mod Digits
pub mod Most
pub mod Rooms
pub mod Printed
pub mod Samples
pub mod Numbers
