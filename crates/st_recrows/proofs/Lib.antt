pub mod RowsLemmas
pub mod Spelled
