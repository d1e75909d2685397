pub mod Spellings
pub mod Slots
pub mod Changes
pub mod Sectors
