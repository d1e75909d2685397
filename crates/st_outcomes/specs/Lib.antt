pub mod Told
pub mod Stopping
pub mod Ending
