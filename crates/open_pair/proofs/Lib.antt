-- The laws of a pair of blocks.
pub mod Pairs
