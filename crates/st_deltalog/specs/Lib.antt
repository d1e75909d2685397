pub mod Log
pub mod Bearing
pub mod Choice
pub mod Finding
