pub mod Started
pub mod Meant
pub mod Tables
