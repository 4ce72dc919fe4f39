pub mod Writing
pub mod Syncing
