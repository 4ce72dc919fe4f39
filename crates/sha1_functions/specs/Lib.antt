-- What the clauses of `sha1_functions` cite.
pub mod Functions
