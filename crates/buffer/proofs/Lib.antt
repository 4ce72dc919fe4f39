pub mod Bytes
pub mod Steps
pub mod Parts
pub mod Put
