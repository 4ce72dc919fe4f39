-- What the proofs of `copy_below` cite.
pub mod InOrder
pub mod Listed
pub mod EntryBlocks
