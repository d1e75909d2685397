pub mod Lists
pub mod Cells
pub mod Segments
pub mod Filesystems
pub mod Pool
pub mod Engine
