pub mod Blocks
pub mod Unpacked
