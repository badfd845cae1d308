pub mod Parse
pub mod Nests
