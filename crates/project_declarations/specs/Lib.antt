pub mod Scopes
pub mod Named
pub mod Declarations
pub mod Rows
