-- What the clauses of `walk` cite.
pub mod Walk
