-- Reading a file into a lent buffer, byte by byte.
use Rattle.std.specs.Prelude.{Bool, cond, [], ◌∷◌, ℕ, zero, suc, ◌-◌, min, ltb, length, get_or, Ok, Err, Result, ⊤}
use Rattle.buffer.specs.Bytes.{Bytes, put}
use Rattle.refusal.specs.declared.Refusal.{Refusal}
use Rattle.refusal.specs.declared.Refusal.TheVariants as why
use Rattle.refusal.specs.Number.{number_of}
use Rattle.sector_log.specs.LookUp.{lent_allowed}
use Rattle.sector_log.specs.Parts.{tape}
use Rattle.entry.specs.declared.Entry.{Entry}
use Rattle.entry.specs.Entry.{entry_of}
use Rattle.leaf.specs.declared.Extent.{Extent}
use Rattle.leaf.specs.declared.Extent.TheVariants as run
use Rattle.leaf.specs.Leaf.{under}
use Rattle.file.specs.File.{entry_readable, extent_at}
use Rattle.fill.specs.declared.Filled.{Filled}

-- "the number, 0 for none"
abbrev pub stop_number : Result ⊤ Refusal → ℕ
stop_number (Ok tt) = 0
stop_number (Err w) = number_of w

-- what is read at an offset: a byte, or why there is none
pub data Read : Type 0 where
  byte : ℕ → Read
  refused : Refusal → Read

-- the first byte of a run in one log of bytes
abbrev pub byte_of : Bytes → Result Extent Refusal → Read
byte_of log (Ok (run.Stored at n)) = byte (get_or log at 0)
byte_of log (Ok (run.Zeros n)) = byte 0
byte_of log (Err w) = refused w

-- byte o of the file of an entry: that of the run there, where `lent` is what test 3 gave. The page of one zero passes its test, and no byte depends on it
abbrev pub byte_at : Bool → Bytes → Bytes → ℕ → Read
byte_at lent log entry o = byte_of log (extent_at lent log (0 ∷ []) entry o)

-- the same below a score at the top level
abbrev pub byte_below : Bytes → Entry → Bytes → ℕ → Read
byte_below log e top o = byte_of log (under log 1 e o e.depth top)

-- bytes up to the first refusal, and that refusal
pub record Gathered : Type 0 where
  pub bytes : Bytes
  pub stop : Result ⊤ Refusal

-- what is read at one offset in front of what is gathered behind it
abbrev pub infront : Read → Gathered → Gathered
infront (byte b) g = record { bytes = b ∷ g.bytes; stop = g.stop }
infront (refused w) g = record { bytes = []; stop = Err w }

-- n bytes from offset o on
unfoldable pub gathered : (ℕ → Read) → ℕ → ℕ → Gathered
gathered read zero o = record { bytes = []; stop = (Ok tt) }
gathered read (suc n) o = infront (read o) (gathered read n (suc o))

-- what a call leaves: its answer, and the buffer to its last byte
pub record FillOutcome : Type 0 where
  pub filled : Filled
  pub buffer : Bytes

abbrev pub fill_outcome : Filled → Bytes → FillOutcome
fill_outcome f d = record { filled = f; buffer = d }

-- bytes gathered, written to the front of the buffer; "the rest stays"
abbrev pub filled_with : Bytes → Gathered → FillOutcome
filled_with d g = fill_outcome (record { count = length g.bytes; stop = g.stop }) (put d 0 g.bytes)

-- a test, which refuses, the buffer as it was lent, or lets through
abbrev pub test : Bool → Refusal → Bytes → FillOutcome → FillOutcome
test b w d x = cond b x (fill_outcome (record { count = 0; stop = Err w }) d)

-- "Tests: 3, 16, 17, then the tree": the file's bytes from the offset on, up to the end of the buffer or of the file, in one log of bytes
unfoldable pub fill_in : Bool → Bytes → Bytes → ℕ → Bytes → FillOutcome
fill_in lent log entry offset d =
    test lent why.LogLength d
    (test (entry_readable entry) why.Entry d
    (test (ltb offset (entry_of entry).size) why.Offset d
    (filled_with d (gathered (byte_at lent log entry) (min (length d) ((entry_of entry).size - offset)) offset))))

-- the same in "the log's used part and then the waiting part as one log"
abbrev pub fill_of : Bytes → Bytes → Bytes → ℕ → Bytes → FillOutcome
fill_of log waiting entry offset d = fill_in (lent_allowed (length log) (length waiting)) (tape log waiting) entry offset d
