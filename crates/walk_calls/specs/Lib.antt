pub mod Walked
pub mod Unpacked
