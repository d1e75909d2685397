pub mod Opening
pub mod Seats
pub mod Held
pub mod Staying
pub mod Outcomes
pub mod Closing
