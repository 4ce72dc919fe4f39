-- What is claimed of a comparison.
pub mod Enough
pub mod Equal
pub mod Given
pub mod Bounds
pub mod Swapped
pub mod Again
pub mod Unchanged
