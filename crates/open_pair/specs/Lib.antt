-- What the clauses of `open_pair` cite besides the definition.
pub mod Lies
pub mod Opens
