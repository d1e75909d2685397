pub mod Last
pub mod Course
pub mod First
