pub mod Rejoining
pub mod Beginning
