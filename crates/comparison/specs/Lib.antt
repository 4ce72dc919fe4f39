-- What a comparison is, and what is claimed of it.
pub mod Compared
pub mod Compare
pub mod Absent
pub mod Differences
