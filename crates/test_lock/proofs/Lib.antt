pub mod Opened
pub mod Refusals
pub mod Later
pub mod Created
pub mod Limits
pub mod Sides
