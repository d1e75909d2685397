pub mod Gathering
pub mod Pieces
pub mod Lists
pub mod Places
pub mod Closed
