pub mod Candidates
pub mod Spelled
pub mod Placing
pub mod Verdicts
pub mod inner
