-- What the clauses of `file` cite.
pub mod File
