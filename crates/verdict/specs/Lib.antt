-- What the clauses of `verdict` cite.
pub mod Verdict
