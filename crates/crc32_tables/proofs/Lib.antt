-- What the proofs of the tables, and the crate above, cite of their rows.
pub mod Rows
