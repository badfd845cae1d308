pub mod Numbered
pub mod Waiting
