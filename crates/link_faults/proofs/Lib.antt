mod Least
pub mod Tells
