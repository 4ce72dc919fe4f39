-- What the clauses of `antigen` cite.
pub mod Name
