pub mod Scopes
pub mod Searches
