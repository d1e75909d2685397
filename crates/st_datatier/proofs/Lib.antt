pub mod Devices
pub mod Growing
pub mod Passes
