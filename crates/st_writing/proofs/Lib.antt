pub mod Mappings
pub mod Puts
pub mod Wanting
pub mod Overwriting
