-- The laws that the answers cite.
pub mod BeBytes
