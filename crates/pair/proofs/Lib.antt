-- The laws of one block of a pair.
pub mod Opened
