pub mod Order
pub mod Planned
pub mod Thin
pub mod inner
