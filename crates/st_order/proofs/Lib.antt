pub mod Lists
pub mod Order
pub mod Ordered
pub mod Rising
