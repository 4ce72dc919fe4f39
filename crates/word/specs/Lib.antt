-- What the clauses of `word` cite.
pub mod Word
