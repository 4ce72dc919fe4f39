-- What the proofs of the exported functions cite.
pub mod Outcomes
