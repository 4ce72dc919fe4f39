-- Laws of no one function. `NumberLaws`: digits and numbers, for callers; `Turns`: the loops' turns; `Examples`: worked values.
pub mod NumberLaws
pub mod Turns
pub mod Examples
