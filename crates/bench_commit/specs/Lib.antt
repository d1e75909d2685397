pub mod Fit
pub mod Paths
