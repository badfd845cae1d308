pub mod formers
pub mod Lends
