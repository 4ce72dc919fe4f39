pub mod Places
pub mod Buckets
pub mod Entered
pub mod Turns
pub mod Read
pub mod Bounds
