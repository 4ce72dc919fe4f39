-- What the clauses of `entry` cite.
pub mod Entry
pub mod Root
pub mod Made
pub mod Examples
