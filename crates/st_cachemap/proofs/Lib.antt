pub mod Entries
pub mod Keeps
pub mod Chain
pub mod Calls
pub mod Touches
