-- What the clauses of `cut` cite.
pub mod Cut
pub mod Pad
pub mod Examples
pub mod Promises
