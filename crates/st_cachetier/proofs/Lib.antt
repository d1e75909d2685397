pub mod Blocks
pub mod Places
pub mod Lists
pub mod Copies
pub mod Settled
