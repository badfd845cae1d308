-- Steps on the way from the code to the least table: Worklist.
pub mod Worklist
