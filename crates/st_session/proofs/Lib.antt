pub mod Boards
pub mod Ends
pub mod Shown
pub mod Small
