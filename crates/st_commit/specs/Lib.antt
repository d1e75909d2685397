pub mod Standing
pub mod Ready
pub mod Reading
pub mod Repair
pub mod Restarting
pub mod Staying
pub mod inner
