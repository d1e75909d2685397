pub mod Refusing
pub mod Creating
pub mod Setting
pub mod Ending
