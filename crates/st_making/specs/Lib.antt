pub mod First
pub mod Made
pub mod inner
