-- What the clauses of `utf8` cite, and what is claimed of them.
pub mod Grammar
pub mod Scan
pub mod Encoding
pub mod Pinned
pub mod Examples
