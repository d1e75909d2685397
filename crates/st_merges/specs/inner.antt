pub mod Halting
pub mod Kept
