pub mod Inside
pub mod Starting
