pub mod Refused
pub mod Becoming
pub mod Tabled
pub mod Renaming
