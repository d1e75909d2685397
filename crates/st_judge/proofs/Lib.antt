pub mod Lists
pub mod Newest
pub mod Sound
pub mod Placed
pub mod Said
pub mod Reading
