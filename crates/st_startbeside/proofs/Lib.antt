pub mod Before
mod Creating
mod Finding
mod Starting
