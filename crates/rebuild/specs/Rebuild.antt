-- What one sector of a log adds to an index that is rebuilt.
use Rattle.std.proofs.Math.Option.{Option, none, some}
use Rattle.buffer.specs.Bytes.{Bytes}
use Rattle.block.specs.Block.{Row}
use Rattle.hint.specs.Rebuilt.{entered_row}

-- "enters each sound block": the one that was found, if any
abbrev pub entered_found : Bytes → Option Row → Bytes
entered_found index none = index
entered_found index (some r) = entered_row index r
