pub mod Stands
pub mod Steps
pub mod Table
pub mod inner
