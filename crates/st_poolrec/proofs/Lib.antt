pub mod ReadingLemmas
pub mod HeadSpelled
pub mod Counts
