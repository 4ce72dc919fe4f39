-- What the clauses of `sha1` cite.
pub mod Sha1
pub mod Stream
pub mod Vectors
