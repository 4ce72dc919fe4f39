pub mod Tests
pub mod Inside
pub mod Border
