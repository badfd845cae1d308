pub mod Noting
pub mod GivenBefore
pub mod Further
pub mod Repeating
