pub mod Founding
