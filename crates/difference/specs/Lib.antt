-- What the clauses of `difference` cite, and what is claimed of them.
pub mod Difference
pub mod Handed
pub mod First
