pub mod Ranges
pub mod Spots
