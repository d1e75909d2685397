pub mod Alike
pub mod Paths
pub mod Course
