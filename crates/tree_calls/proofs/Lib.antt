pub mod Packed
pub mod Unpacked
pub mod Fills
