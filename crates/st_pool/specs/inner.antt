pub mod Plans
pub mod Renames
pub mod Endings
pub mod Makings
pub mod Wakings
