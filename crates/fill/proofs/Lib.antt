pub mod Leaf
pub mod Gather
pub mod Tests
pub mod Turn
