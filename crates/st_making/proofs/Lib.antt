pub mod Heads
pub mod Heading
pub mod Made
pub mod Phases
pub mod Valid
pub mod Blank
