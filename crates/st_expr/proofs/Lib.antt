mod Levels
pub mod Operators
pub mod Leaves
pub mod Arguments
pub mod Rules
mod Nesting
pub mod Exactness
pub mod Numbers
pub mod Lists
pub mod NameLists
