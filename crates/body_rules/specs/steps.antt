pub mod Around
pub mod Both
pub mod Missing
