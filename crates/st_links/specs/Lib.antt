pub mod Arena
pub mod Ring
