pub mod Fields
pub mod Schema
pub mod Bounds
pub mod Lawful
