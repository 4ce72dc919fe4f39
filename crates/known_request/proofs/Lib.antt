pub mod Writes
pub mod Requests
