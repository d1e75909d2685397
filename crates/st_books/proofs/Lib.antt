pub mod Moving
pub mod Between
pub mod Saying
pub mod Steps
pub mod Texts
pub mod Lying
