pub mod Written
pub mod Standing
pub mod Writes
pub mod Rounds
pub mod Told
pub mod Finished
