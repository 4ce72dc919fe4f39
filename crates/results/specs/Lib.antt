-- What the answers of the calls of the boundary have in common.
pub mod Sizes
pub mod Unpacked
