pub mod Choices
pub mod Places
