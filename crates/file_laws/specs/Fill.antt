-- What filling a buffer gives: the file's bytes, those of its runs; and the refusal at the offset where it stopped.
use Rattle.std.specs.Prelude.{◌≡◌, true, ℕ, ◌+◌, ◌-◌, ◌≤◌, ◌<◌, min, length, take, drop, get_or, Ok, Err}
use Rattle.std.proofs.Math.Option.{some}
use Rattle.buffer.specs.Bytes.{Bytes}
use Rattle.refusal.specs.declared.Refusal.{Refusal}
use Rattle.sector_log.specs.Parts.{tape}
use Rattle.entry.specs.Entry.{entry_of}
use Rattle.file.specs.File.{page_allowed, located}
use Rattle.file.specs.declared.Located.TheVariants as run
use Rattle.fill.specs.Fill.{fill_of}
use Rattle.file_laws.specs.Path.{Answers}
use Rattle.file_laws.specs.Bytes.{file_byte, laid}

-- as many bytes as the count says are the file's, each the byte that look-up's definition has there; behind them the buffer is as it was lent
abbrev pub FillIsTheFiles : Type 0
FillIsTheFiles = (log waiting entry : Bytes) (offset : ℕ) (d : Bytes)
    → let r = fill_of log waiting entry offset d in
    (r.filled.count ≤ length d)
    × (r.filled.count ≤ (entry_of entry).size - offset)
    × ((i : ℕ) → i < r.filled.count → file_byte (tape log waiting) entry (offset + i) ≡ some (get_or r.buffer i 0))
    × (drop r.filled.count r.buffer ≡ drop r.filled.count d)

-- what is filled are the runs laid end to end, whatever page of zeros these are read with; where nothing is refused, up to the end of the buffer or of the file
abbrev pub FillIsTheRuns : Type 0
FillIsTheRuns = (log waiting page entry : Bytes) (offset : ℕ) (d : Bytes) → page_allowed page ≡ true
    → let r = fill_of log waiting entry offset d in
    (take r.filled.count r.buffer ≡ take r.filled.count (laid r.filled.count log waiting page entry offset))
    × (r.filled.stop ≡ Ok tt → r.filled.count ≡ min (length d) ((entry_of entry).size - offset))

-- where every offset from one on reads, filling from there stops at the end of the buffer or of the file and nowhere before
abbrev pub FillFrom : Type 0
FillFrom = (log waiting page entry : Bytes) (offset : ℕ) (d : Bytes) → offset < (entry_of entry).size
    → ((o : ℕ) → offset ≤ o → o < (entry_of entry).size → Answers (located log waiting page entry o))
    → let r = fill_of log waiting entry offset d in (r.filled.count ≡ min (length d) ((entry_of entry).size - offset)) × (r.filled.stop ≡ Ok tt)

-- where every offset reads, a buffer of at least the file's size gets the file's `size` bytes
abbrev pub FillWhole : Type 0
FillWhole = (log waiting page entry d : Bytes) → ((o : ℕ) → o < (entry_of entry).size → Answers (located log waiting page entry o)) → (entry_of entry).size ≤ length d
    → let r = fill_of log waiting entry 0 d in
    (r.filled.count ≡ (entry_of entry).size)
    × ((i : ℕ) → i < (entry_of entry).size → file_byte (tape log waiting) entry i ≡ some (get_or r.buffer i 0))
    × (0 < (entry_of entry).size → r.filled.stop ≡ Ok tt)

-- the refusal is the one that reading gives at the first offset behind the bytes
abbrev pub FillRefusal : Type 0
FillRefusal = (log waiting page entry : Bytes) (offset : ℕ) (d : Bytes) (w : Refusal) → page_allowed page ≡ true
    → let r = fill_of log waiting entry offset d in
    r.filled.stop ≡ Err w → located log waiting page entry (offset + r.filled.count) ≡ Err w
