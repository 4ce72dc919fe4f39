-- The laws of damaged cards: `Damaged`.
pub mod Damaged
