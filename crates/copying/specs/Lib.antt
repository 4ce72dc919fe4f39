-- What a copy is, and what it promises.
pub mod Copy
pub mod Parts
pub mod PostOrder
pub mod Promises
