-- What the clauses of `tree` cite.
pub mod Tree
