-- What the clauses of `kleene` cite.
pub mod Kleene
pub mod Order
