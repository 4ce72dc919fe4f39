pub mod Belongs
pub mod Exact
pub mod Written
pub mod Doubts
pub mod Learned
