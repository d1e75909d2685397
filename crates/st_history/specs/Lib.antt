pub mod Agreement
pub mod Failures
pub mod History
pub mod Own
pub mod Over
