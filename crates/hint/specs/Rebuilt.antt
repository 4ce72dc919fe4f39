-- "Rebuilding it from the log alone clears the buckets and enters each sound block in log order"
use Rattle.std.specs.Prelude.{cond, List, [], ◌∷◌, ℕ, length, Ok, Err, Result, ⊤}
use Rattle.buffer.specs.Bytes.{Bytes}
use Rattle.refusal.specs.Number.{number_of}
use Rattle.refusal.specs.declared.Refusal.TheVariants.{LogLength}
use Rattle.block.specs.Block.{Row}
use Rattle.sector_log.specs.LookUp.{blocks, log_allowed}
use Rattle.index.specs.Index.{entered, cleared}
use Rattle.refusal.specs.declared.Refusal.{Refusal}

-- a row entered: its score, type, and the sector where it starts
abbrev pub entered_row : Bytes → Row → Bytes
entered_row index r = entered index r.score r.kind r.first

-- rows entered one after the other
unfoldable pub entered_all : Bytes → List Row → Bytes
entered_all index [] = index
entered_all index (r ∷ rows) = entered_all (entered_row index r) rows

unfoldable pub rebuilt : Bytes → Bytes → Bytes
rebuilt log index = entered_all (cleared index) (blocks log)

-- rebuilding's answer, and what the index then holds
pub record AfterRebuild : Type 0 where
  pub answer : Result ⊤ Refusal
  pub index : Bytes

abbrev pub after_rebuild : Result ⊤ Refusal → Bytes → AfterRebuild
after_rebuild answer index = record { answer = answer; index = index }

-- its number: 0, or its refusal's
abbrev pub rebuilding_number : Result ⊤ Refusal → ℕ
rebuilding_number (Ok tt) = 0
rebuilding_number (Err w) = number_of w

-- test 3, and then nothing is changed
unfoldable pub rebuilt_asked : Bytes → Bytes → AfterRebuild
rebuilt_asked log index = cond (log_allowed (length log)) (after_rebuild (Ok tt) (rebuilt log index)) (after_rebuild (Err LogLength) index)
