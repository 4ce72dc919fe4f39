pub mod Tree
pub mod Unpacked
