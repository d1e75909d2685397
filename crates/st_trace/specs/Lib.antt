pub mod Calls
pub mod Traced
