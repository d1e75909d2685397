pub mod View
pub mod Free
pub mod Holds
pub mod Changes
pub mod Ran
