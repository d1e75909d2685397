pub mod Rank
pub mod Uses
pub mod Tied
