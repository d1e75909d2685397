pub mod Lists
pub mod Views
pub mod Parts
pub mod Ruling
pub mod Kinds
pub mod Seated
