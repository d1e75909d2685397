pub mod Fit
pub mod Engines
