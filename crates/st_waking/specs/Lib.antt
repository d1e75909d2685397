pub mod Met
pub mod Readies
pub mod Taken
pub mod Did
