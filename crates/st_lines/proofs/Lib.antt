pub mod Bare
pub mod Broken
pub mod Cuts
pub mod Few
pub mod Joined
pub mod Known
pub mod Progress
pub mod Prefix
pub mod Printed
pub mod Stays
mod Feeds
