pub mod Known
pub mod Promises
