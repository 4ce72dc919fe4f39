-- Laws of the code: `OnePiece`, the part that is one piece; `Level`, one level stored; `EntryBytes`, the entry.
pub mod OnePiece
pub mod Level
pub mod EntryBytes
