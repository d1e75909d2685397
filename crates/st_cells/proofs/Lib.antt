pub mod Lookups
pub mod Cells
pub mod Tables
