-- What the clauses of `leaf` cite.
pub mod Leaf
pub mod Fetch
