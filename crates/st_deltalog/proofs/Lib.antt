pub mod Reading
pub mod Bearing
pub mod Growing
pub mod Restart
pub mod Runs
pub mod Following
pub mod Tails
pub mod Choosing
