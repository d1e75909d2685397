pub mod Order
pub mod Ours
