-- Laws of the zero score and of the block types.
pub mod ZeroScore
pub mod Types
