pub mod ServeLaws
pub mod Unpacked
