pub mod Net
pub mod NetLaw
