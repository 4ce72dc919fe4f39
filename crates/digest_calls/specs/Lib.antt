-- What the clauses of `digest_calls` cite.
pub mod Digest
