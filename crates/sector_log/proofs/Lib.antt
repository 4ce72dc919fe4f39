-- Laws for the scans of a log: `Blocks`, what it holds; `Records`, how many; `First`, the first of a type and score; `Named`, that what is found has
-- them; `Doubt`, what is
-- doubtful; `Written`, after an append; `Alike`, of two logs with the same sectors; `Parts`, of a log and what waits behind it; `Counted`,
-- look-up with a count. `InBlock`: sectors in and outside of a list of blocks; `Room`: room for a block; `Allowed`: a log that test 3 allows,
-- and what may be written into it; `Receipts`: what a store hands back.
pub mod Blocks
pub mod Records
pub mod First
pub mod Named
pub mod InBlock
pub mod Doubt
pub mod FirstDoubt
pub mod Written
pub mod Appended
pub mod Alike
pub mod Parts
pub mod Counted
pub mod Gives
pub mod Room
pub mod Allowed
pub mod Receipts
