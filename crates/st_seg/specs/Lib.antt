pub mod Blocks
pub mod Stock
pub mod Calls
