pub mod Indexed
pub mod Promises
