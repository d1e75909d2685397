pub mod Engine
pub mod Pool
pub mod Reports
pub mod Uuids
pub mod Values
