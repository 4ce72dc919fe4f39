-- The laws of queries.
pub mod Words
pub mod Names
pub mod Front
pub mod Sound
pub mod Tokens
pub mod OneToOne
pub mod Monotone
pub mod Examples
pub mod Places
pub mod Fused
