-- What the clauses of `crc32_tables` cite.
pub mod Digits
