-- The laws of a walk that no contract needs.
pub mod Enough
pub mod Examples
pub mod Found
pub mod Again
