pub mod Once
pub mod Counting
pub mod Sectors
pub mod Followed
pub mod Members
pub mod Growing
pub mod Beginning
pub mod Mapping
