-- The laws of a copy.
pub mod Allowance
pub mod Below
pub mod CopiedAgain
pub mod Grown
pub mod InPostOrder
pub mod Made
pub mod OneVisit
pub mod Promised
pub mod SameSectors
pub mod Stored
pub mod Visited
pub mod WalkInPostOrder
pub mod Writes
