-- Contracts in a cycle of calls.
pub mod Measured
