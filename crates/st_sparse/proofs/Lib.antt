pub mod Kept
pub mod Over
pub mod Tears
pub mod Prefix
pub mod Steps
