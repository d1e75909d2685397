pub mod Serials
pub mod Halted
pub mod Present
pub mod Changing
pub mod Going
pub mod Counting
pub mod Keeping
pub mod Lending
