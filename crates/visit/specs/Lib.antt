-- What the clauses of `visit` cite.
pub mod Visit
pub mod Met
