pub mod Follow
pub mod Rings
pub mod Rows
pub mod Moves
pub mod Ties
pub mod Neighbours
pub mod Calls
