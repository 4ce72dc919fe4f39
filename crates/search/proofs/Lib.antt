pub mod Reading
pub mod Tests
