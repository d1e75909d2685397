pub mod Parts
pub mod Few
pub mod Adding
pub mod Taking
pub mod Calls
