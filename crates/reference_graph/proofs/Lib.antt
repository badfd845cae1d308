pub mod Places
pub mod Ways
pub mod Storing
pub mod Searching
pub mod Orders
pub mod Splitting
pub mod Settling
pub mod Turning
