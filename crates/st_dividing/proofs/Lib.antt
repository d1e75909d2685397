pub mod Present
pub mod OneMore
