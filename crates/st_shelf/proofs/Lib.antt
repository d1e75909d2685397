pub mod Order
pub mod Look
pub mod Leave
pub mod Come
pub mod Change
