-- What the clauses of `hexadecimal` cite, and what is promised.
pub mod Hex
pub mod Promises
