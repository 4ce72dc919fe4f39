-- The laws of cards that were written: `Written`, judged by their bytes; `Donor`, computed.
pub mod Written
pub mod Donor
