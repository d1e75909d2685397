mod Starting
pub mod Meaning
mod Tabling
