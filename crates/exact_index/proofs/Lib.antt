pub mod Turns
pub mod Tells
