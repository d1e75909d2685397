pub mod Called
pub mod Closed
