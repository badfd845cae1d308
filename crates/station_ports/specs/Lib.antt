pub mod Views
pub mod Calls
pub mod Faults
pub mod Memory
pub mod Lists
