-- The laws of a comparison.
pub mod Alike
pub mod Tests
