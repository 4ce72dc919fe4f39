pub mod Tests
pub mod Border
