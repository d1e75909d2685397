pub mod Adding
pub mod Lists
pub mod Objects
