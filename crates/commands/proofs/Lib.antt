pub mod Starting
pub mod Laid
pub mod Looks
pub mod Keeping
pub mod Entries
pub mod Entering
