pub mod Sectors
pub mod Since
pub mod Arms
pub mod Sparse
