pub mod View
pub mod Noted
pub mod Effects
pub mod Callers
pub mod Stands
pub mod Rooms
pub mod inner
