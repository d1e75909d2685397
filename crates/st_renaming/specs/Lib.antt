pub mod Renames
pub mod inner
