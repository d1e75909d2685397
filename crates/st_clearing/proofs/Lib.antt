pub mod Alike
mod Clearings
pub mod Emptied
