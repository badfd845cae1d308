-- Steps on the way from the code to the definitions, which no contract of an exported call names.
pub mod Readings
