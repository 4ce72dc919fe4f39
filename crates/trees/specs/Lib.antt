-- What the theorems of `trees` claim.
pub mod Again
