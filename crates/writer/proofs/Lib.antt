-- Laws of the writer: `Cutting`, a block cut; `Levels`, one level stored after the other; `Depth`, the least depth; `Tested`, the lent buffers and the tests.
pub mod Cutting
pub mod Levels
pub mod Depth
pub mod Tested
