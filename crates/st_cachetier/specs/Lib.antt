pub mod Tier
