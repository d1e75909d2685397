pub mod FlexAt
pub mod Mapped
pub mod inner
