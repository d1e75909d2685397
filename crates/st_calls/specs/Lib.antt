pub mod Form
pub mod FsForms
pub mod Gives
pub mod inner
pub mod IoForms
pub mod Members
pub mod Names
pub mod PoolForms
