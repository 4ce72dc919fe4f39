pub mod Filled
pub mod Pieces
pub mod Pointers
