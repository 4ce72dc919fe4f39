pub mod Block
pub mod Log
pub mod Counts
pub mod Promises
