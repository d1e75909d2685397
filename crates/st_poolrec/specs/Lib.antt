pub mod Head
pub mod HeadLaws
pub mod Conditions
pub mod Record
pub mod Reading
