pub mod Spelled
pub mod Survived
pub mod Ready
