pub mod Working
pub mod Apart
