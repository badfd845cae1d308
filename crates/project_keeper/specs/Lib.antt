pub mod Names
pub mod Projects
pub mod Keeping
pub mod Codes
