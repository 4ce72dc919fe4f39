pub mod Pieces
pub mod Turns
