-- What the clauses of `card` cite, and what is claimed of them.
pub mod Card
pub mod Scan
pub mod Pinned
pub mod Says
pub mod Examples
