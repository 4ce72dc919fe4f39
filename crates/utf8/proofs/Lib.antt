-- Laws of no one function. `Rows`, `Returns`: for the returns of the code; `Characters`, `Pinned`: the encoding; `Examples`: the table.
pub mod Rows
pub mod Returns
pub mod Characters
pub mod Pinned
pub mod Examples
