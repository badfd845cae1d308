pub mod Types
pub mod Joints
pub mod Blocks
pub mod Functions
