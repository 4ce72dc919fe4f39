pub mod Hint
pub mod Tells
pub mod Rebuilt
pub mod Promises
