pub mod Serve
pub mod Unpacked
