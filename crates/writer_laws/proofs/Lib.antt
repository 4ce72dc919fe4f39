-- Laws of the writer of files: `Scores`, of scores and of blocks that were cut; `Held`, of blocks stored; `Written`, of the blocks and tests of a file;
-- `Back`, of reading through its tree; `ReadBack`, the theorems; `StillHeld`, what follows of a log that holds the blocks; `WritesOn`, of the same call after a sync;
-- `Messages`, of one write message to any log; `Asking`, of the list of them.
pub mod Scores
pub mod Held
pub mod Back
pub mod Written
pub mod WritesOn
pub mod ReadBack
pub mod StillHeld
pub mod Messages
pub mod Asking
pub mod Walk
pub mod Tests
pub mod Visits
pub mod FileVisits
pub mod Reached
pub mod Visited
