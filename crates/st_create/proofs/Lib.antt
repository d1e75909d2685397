pub mod Founded
