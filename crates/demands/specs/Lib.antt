pub mod Ledger
pub mod Instance
pub mod Theorem
