pub mod steps
pub mod Nodes
pub mod Initials
