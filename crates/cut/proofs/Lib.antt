-- Laws of units, of cutting and of padding.
pub mod Units
pub mod Multiples
pub mod Turns
pub mod Tests
pub mod Shortest
pub mod CutAndPad
pub mod Examples
