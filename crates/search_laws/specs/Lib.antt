-- What the card search promises.
pub mod Promises
pub mod Examples
