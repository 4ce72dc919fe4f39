-- What the clauses of `message` cite.
pub mod Message
pub mod Reply
pub mod Requests
