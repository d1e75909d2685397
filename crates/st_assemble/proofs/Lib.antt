pub mod Rows
pub mod UpTo
pub mod Foreign
pub mod Unnamed
pub mod Logs
