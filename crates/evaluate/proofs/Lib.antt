-- The laws of reading a query and of its value.
pub mod Steps
pub mod Names
pub mod Terms
pub mod Whole
