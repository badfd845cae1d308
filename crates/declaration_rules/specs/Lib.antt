pub mod steps
pub mod Declarations
