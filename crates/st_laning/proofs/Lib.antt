pub mod Laned
pub mod Logs
pub mod OneCall
pub mod Parts
pub mod Places
pub mod Steps
