pub mod steps
pub mod Parts
pub mod Places
pub mod Tables
