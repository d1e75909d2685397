pub mod SoFar
pub mod Told
pub mod Places
pub mod Taken
