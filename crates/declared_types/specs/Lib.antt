pub mod steps
pub mod Around
pub mod BareForms
pub mod Ranges
pub mod Specifications
