-- The theorems of CRC-32, and the laws of its rule.
pub mod Xor
pub mod Step
pub mod Pack
pub mod Bound
pub mod BitBurst
pub mod BurstAt
pub mod ByTable
pub mod Vectors
