-- What the clauses of `pair` cite.
pub mod Opened
