pub mod Addresses
pub mod Surrounding
pub mod SameTypes
pub mod Declaring
pub mod Computing
pub mod Tables
