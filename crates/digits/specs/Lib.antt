-- What the clauses of `digits` cite, and what is promised.
pub mod Number
pub mod Promises
