-- What the clauses of `descent` cite.
pub mod Descent
pub mod Parts
