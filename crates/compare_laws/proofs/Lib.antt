-- The laws of a comparison that no contract needs.
pub mod Enough
pub mod Equal
pub mod Given
pub mod Bounds
pub mod Done
pub mod Swapped
pub mod Unchanged
