pub mod Clearing
pub mod Laws
