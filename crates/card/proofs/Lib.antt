pub mod Parts
pub mod Lines
pub mod Turns
pub mod Order
pub mod Pinned
pub mod Says
pub mod Examples
