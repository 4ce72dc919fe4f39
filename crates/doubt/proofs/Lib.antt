pub mod Walk
pub mod Both
