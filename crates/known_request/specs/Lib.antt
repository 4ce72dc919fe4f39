pub mod Quick
pub mod Promises
