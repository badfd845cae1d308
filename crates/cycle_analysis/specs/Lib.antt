pub mod Pass
pub mod Fill
pub mod Next
pub mod Table
pub mod Steady
pub mod Rows
pub mod Solved
