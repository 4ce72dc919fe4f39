-- The laws of the first difference.
pub mod Positions
pub mod Rest
pub mod First
