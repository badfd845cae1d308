pub mod Code
pub mod Writes
pub mod Steady
pub mod Places
pub mod Plans
pub mod Feeds
pub mod Defaults
