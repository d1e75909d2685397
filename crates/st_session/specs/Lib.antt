pub mod Headline
pub mod inner
pub mod Modes
pub mod Out
