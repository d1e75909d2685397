pub mod Rising
pub mod Sharing
pub mod Symmetry
pub mod Turns
