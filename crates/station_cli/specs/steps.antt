-- Steps on the way from the code to the definitions: Parsing, Lines.
pub mod Parsing
pub mod Lines
