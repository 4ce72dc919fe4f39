-- What the clauses of `search` cite.
pub mod Search
