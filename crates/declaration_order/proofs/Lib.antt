pub mod Numbering
pub mod Waits
pub mod Named
pub mod InOrder
