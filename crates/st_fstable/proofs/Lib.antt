mod ByName
mod Serials
