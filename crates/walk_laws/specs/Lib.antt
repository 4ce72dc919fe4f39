-- What the theorems of `walk_laws` claim.
pub mod Enough
pub mod Found
