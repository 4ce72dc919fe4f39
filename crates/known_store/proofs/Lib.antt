pub mod Found
pub mod Stored
pub mod After
