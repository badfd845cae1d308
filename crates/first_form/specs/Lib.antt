pub mod Nodes
pub mod Bare
pub mod Names
pub mod FirstForm
pub mod Laws
pub mod steps
