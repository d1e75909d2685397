pub mod Lookups
pub mod Sound
pub mod Told
pub mod Follows
pub mod Made
pub mod Once
