pub mod steps
pub mod Noted
pub mod Twice
pub mod Forms
pub mod Parameters
pub mod Running
