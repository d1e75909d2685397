pub mod Carry
pub mod Plans
