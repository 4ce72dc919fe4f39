-- Laws of entries and roots.
pub mod Room
pub mod Fields
pub mod Made
pub mod Tests
pub mod Examples
