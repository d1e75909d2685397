pub mod Created
pub mod Parts
pub mod Reported
pub mod Views
