-- Laws of a copy: `Asked`, of its blocks stored one after the other; `Promised`, the theorems of requests; `Resumed`, of growth; `EveryBlock`, of the walk over a
-- file that was written.
pub mod Asked
pub mod Promised
pub mod Resumed
pub mod EveryBlock
