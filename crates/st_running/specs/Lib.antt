pub mod Calls
pub mod Part
pub mod Gives
pub mod Returns
