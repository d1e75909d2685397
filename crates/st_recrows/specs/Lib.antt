pub mod Rows
pub mod Texts
pub mod TextLaws
pub mod PoolRows
pub mod PoolLaws
pub mod FsRows
pub mod FsLaws
