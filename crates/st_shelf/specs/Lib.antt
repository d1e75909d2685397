pub mod Shelf
pub mod Past
pub mod Told
