pub mod Once
pub mod Planned
pub mod Founding
pub mod Slack
