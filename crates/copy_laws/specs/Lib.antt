-- What is claimed of a copy beside requests and growth, and of the walk over a file that was written.
pub mod Requests
pub mod Resumed
pub mod EveryBlock
