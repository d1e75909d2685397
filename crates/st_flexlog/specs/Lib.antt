pub mod Delta
pub mod Counted
pub mod State
pub mod Applied
pub mod Said
