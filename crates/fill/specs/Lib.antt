-- What the clauses of `fill` cite.
pub mod Fill
