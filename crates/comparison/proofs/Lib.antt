-- The laws of a comparison that its code and its theorems share.
pub mod Absent
pub mod Bounds
