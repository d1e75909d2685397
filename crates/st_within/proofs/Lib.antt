pub mod OnPool
pub mod Outcomes
pub mod Singly
