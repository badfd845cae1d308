pub mod ReadTrees
pub mod Parse
pub mod Nests
pub mod Held
pub mod Reading
