pub mod Cache
pub mod Growth
pub mod Sums
