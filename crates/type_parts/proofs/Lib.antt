pub mod Adding
pub mod Members
pub mod Positions
pub mod Finding
pub mod Marking
pub mod Numbering
pub mod Reading
