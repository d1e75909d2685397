pub mod WritesOnly
