-- What the clauses of `evaluate` cite.
pub mod Read
pub mod Evaluate
