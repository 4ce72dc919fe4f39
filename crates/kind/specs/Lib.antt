-- What the clauses of `kind` cite.
pub mod Kind
