pub mod Texts
pub mod Kinds
pub mod Grammar
pub mod Kept
pub mod steps
