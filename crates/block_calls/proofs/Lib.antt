pub mod BlockLaws
pub mod Unpacked
