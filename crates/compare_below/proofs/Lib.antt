-- The laws of what is below two blocks.
pub mod InOrder
pub mod Entries
