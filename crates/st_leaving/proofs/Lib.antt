mod Leaving
pub mod Plainly
pub mod Freed
