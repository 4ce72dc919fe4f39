-- Roots: 300 bytes, version[2] name[128] type[128] score[20] blocksize[2] prev[20].
use Rattle.std.specs.Prelude.{Bool, ◌&&◌, eqb, length, take, drop}
use Rattle.buffer.specs.Bytes.{Bytes}
use Rattle.entry.specs.Entry.{field}

-- "A root is 300 bytes: version[2]=2 ..; it is ill-formed only by another version"
unfoldable pub root_well_formed : Bytes → Bool
root_well_formed b = eqb (length b) 300 && eqb (field 0 2 b) 2

-- the score of the root's directory block
abbrev pub root_score : Bytes → Bytes
root_score b = take 20 (drop 258 b)
