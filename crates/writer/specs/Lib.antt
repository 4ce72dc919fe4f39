-- What the clauses of `writer` cite.
pub mod Blocks
pub mod Depth
pub mod WriteFile
