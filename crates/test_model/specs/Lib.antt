pub mod Full
pub mod Scripts
pub mod Devices
pub mod Filesystems
pub mod Writing
pub mod Session
pub mod Faults
