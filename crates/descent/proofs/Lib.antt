-- The laws of what is below a block.
pub mod Padded
pub mod InOrder
pub mod Listed
pub mod EntryBlocks
