pub mod Coded
pub mod inner
