-- Queries and what is claimed of them.
pub mod Reading
pub mod Grammar
pub mod Place
pub mod Value
pub mod Claims
pub mod Examples
