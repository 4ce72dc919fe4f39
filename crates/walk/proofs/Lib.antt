-- The laws of a walk from its root.
pub mod FromRoot
pub mod Alike
