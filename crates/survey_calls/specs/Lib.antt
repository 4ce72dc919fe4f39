pub mod Survey
pub mod Unpacked
