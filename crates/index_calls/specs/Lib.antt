pub mod Hints
pub mod Unpacked
