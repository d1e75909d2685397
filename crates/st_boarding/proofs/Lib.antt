pub mod Used
pub mod Rows
pub mod Lists
pub mod Boards
