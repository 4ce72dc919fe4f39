-- Laws of no one function. `HexLaws`: hex digits and numbers, for callers; `Turns`: the loops' turns; `Examples`: worked values.
pub mod HexLaws
pub mod Turns
pub mod Examples
