pub mod ReadingLemmas
pub mod Orders
pub mod Marks
pub mod Places
pub mod Counts
pub mod NoZeros
