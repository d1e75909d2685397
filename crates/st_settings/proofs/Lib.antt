mod Filesystems
pub mod Places
pub mod Rows
