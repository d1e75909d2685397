pub mod Turns
pub mod LastLook
pub mod Back
pub mod Granting
pub mod Staying
pub mod Sent
