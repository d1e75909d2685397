pub mod Deltas
pub mod Putting
pub mod Saying
