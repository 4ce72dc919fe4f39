-- A run and filling: nothing is lost in packing.
use Rattle.std.specs.Prelude.{◌≡◌, [], ◌∷◌, ℕ, ◌+◌, Ok, Err}
use Rattle.buffer.specs.Bytes.{Bytes}
use Rattle.refusal.specs.Number.{number_of, told_sector}
use Rattle.refusal.specs.declared.Refusal.{Refusal}
use Rattle.file.specs.File.{located}
use Rattle.fill.specs.Fill.{stop_number, fill_of}
use Rattle.tree_calls.specs.Tree.{packed, unpacked, run, run_of, fill_result}
use Rattle.results.specs.Unpacked.{number_in, answer_in}

-- a file's run: the number, the slice in which it lies, its start and its length
abbrev pub RunUnpacks : Type 0
RunUnpacks = (log waiting page b : Bytes) (offset : ℕ) → unpacked (packed (located log waiting page b offset)) ≡ run_of (located log waiting page b offset)

-- filling a buffer: the number, the count, and the buffer; the sector that a refusal tells of, 0 without one
abbrev pub FillUnpacks : Type 0
FillUnpacks = (log waiting b : Bytes) (offset : ℕ) (d : Bytes)
    → let o = fill_of log waiting b offset d in
    let r = fill_result o in
    (number_in r.result ≡ stop_number o.filled.stop)
    × (answer_in r.result ≡ o.filled.count)
    × (r.buffer ≡ o.buffer)
    × ((w : Refusal) → o.filled.stop ≡ Err w → r.told ≡ told_sector w)
    × (o.filled.stop ≡ Ok tt → r.told ≡ 0)

-- a refusal that ends filling: locating the first offset behind the bytes has its number too, and the sector that it tells of
abbrev pub FillRefusalUnpacks : Type 0
FillRefusalUnpacks = (log waiting b : Bytes) (offset : ℕ) (d : Bytes) (w : Refusal)
    → let o = fill_of log waiting b offset d in
    o.filled.stop ≡ Err w → unpacked (packed (located log waiting (0 ∷ []) b (offset + o.filled.count))) ≡ run (number_of w) 0 (fill_result o).told 0
