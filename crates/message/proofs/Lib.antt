-- Laws of no one function. `Replies`, `Requests`: for callers; `Returns`: the returns of the code.
pub mod Returns
pub mod Replies
pub mod Requests
