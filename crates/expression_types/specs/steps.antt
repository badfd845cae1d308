pub mod Exact
pub mod Pairs
pub mod Several
pub mod Apart
pub mod Three
