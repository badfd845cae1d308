-- Steps on the way from the code to components and orders: Stored, DepthFirst, Sources, Groups.
pub mod Stored
pub mod DepthFirst
pub mod Sources
pub mod Groups
