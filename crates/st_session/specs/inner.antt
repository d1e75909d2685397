pub mod Ended
pub mod Printing
