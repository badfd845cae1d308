mod ListForms
mod Nesting
pub mod SpecForms
pub mod InitForms
pub mod DeclForms
pub mod ConfigForms
