pub mod Slab
pub mod Blank
pub mod One
pub mod Ends
pub mod MemRack
pub mod Record
pub mod Exact
