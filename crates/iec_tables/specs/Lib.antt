pub mod Faults
pub mod Conversions
pub mod Kinds
pub mod Letters
pub mod Rising
pub mod Rules
pub mod Types
pub mod Words
