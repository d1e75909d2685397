pub mod Looked
pub mod Serials
