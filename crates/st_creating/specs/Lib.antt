pub mod Told
pub mod Plan
