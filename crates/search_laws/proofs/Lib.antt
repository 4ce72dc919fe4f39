pub mod Course
pub mod Whole
pub mod Unreadable
pub mod Elsewhere
pub mod Lines
pub mod Again
pub mod Examples
