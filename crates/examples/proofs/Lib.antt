pub mod Marked
pub mod Messages
pub mod Texts
pub mod Pads
pub mod Limits
pub mod Dates
