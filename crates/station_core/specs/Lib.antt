pub mod Answer
pub mod Commands
pub mod steps
