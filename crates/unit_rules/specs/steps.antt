pub mod Given
pub mod Further
