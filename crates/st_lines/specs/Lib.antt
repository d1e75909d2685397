pub mod GiveBack
pub mod Limits
pub mod Lines
pub mod Printing
pub mod Spans
