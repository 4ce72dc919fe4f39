-- The laws that the functions' proofs cite. `Digest` is for the crates above, too.
pub mod Feed
pub mod Pad
pub mod Digest
