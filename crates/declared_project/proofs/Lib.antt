mod Lengths
mod Names
mod Rows
