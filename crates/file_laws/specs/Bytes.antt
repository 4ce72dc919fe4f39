-- The bytes of a run, each byte of a file by look-up's definition, and a file's runs laid end to end.
use Rattle.std.specs.Prelude.{◌≡◌, cond, [], ◌++◌, ℕ, zero, suc, ◌+◌, ◌%◌, ◌≤◌, ◌<◌, ltb, length, take, drop, get_or, Ok, Err, Result}
use Rattle.std.proofs.Math.Option.{Option, none, some}
use Rattle.bedrock.specs.Choice.{on}
use Rattle.buffer.specs.Bytes.{Bytes, same}
use Rattle.kind.specs.Kind.{zero_score}
use Rattle.sector_log.specs.LookUp.{held}
use Rattle.sector_log.specs.Parts.{tape}
use Rattle.entry.specs.declared.Entry.{Entry}
use Rattle.entry.specs.Entry.{entry_of, score_of}
use Rattle.file.specs.declared.Located.{Located}
use Rattle.file.specs.declared.Located.TheVariants.{Stored, Waiting, Zeros}
use Rattle.tree.specs.Tree.{pointer, pointer_type, type_at}
use Rattle.leaf.specs.Leaf.{pointer_index}
use Rattle.file.specs.File.{located}
use Rattle.file_laws.specs.Path.{Answers}
use Rattle.refusal.specs.declared.Refusal.{Refusal}

-- the bytes of a run: "a part of the log or of the lent blank page", or of the waiting part; "A refusal hands back an empty part"
abbrev pub run_bytes : Bytes → Bytes → Bytes → Result Located Refusal → Bytes
run_bytes log waiting page (Ok (Stored at n)) = take n (drop at log)
run_bytes log waiting page (Ok (Waiting at n)) = take n (drop at waiting)
run_bytes log waiting page (Ok (Zeros n)) = take n page
run_bytes log waiting page (Err w) = []

-- byte `offset` of the file under a score at a level, by look-up's definition; none where a block on the path is missing.
-- "below a zero score all is zero", and so is what a leaf lacks
unfoldable pub byte_under : Bytes → Entry → ℕ → ℕ → Bytes → Option ℕ
byte_under log e offset zero s =
    cond (same s zero_score) (some 0) (on (held log (type_at e 0) s) none (λ r. some (get_or r.bytes (offset % e.dsize) 0)))
byte_under log e offset (suc d) s =
    cond (same s zero_score) (some 0)
    (on (held log (pointer_type (suc d)) s) none (λ r. byte_under log e offset d (pointer r.bytes (pointer_index e offset d))))

-- byte `offset` of the file of an entry
unfoldable pub file_byte : Bytes → Bytes → ℕ → Option ℕ
file_byte log entry offset = byte_under log (entry_of entry) offset (entry_of entry).depth (score_of entry)

-- the runs laid end to end from an offset on, at most k of them
unfoldable pub laid : ℕ → Bytes → Bytes → Bytes → Bytes → ℕ → Bytes
laid zero log waiting page entry offset = []
laid (suc k) log waiting page entry offset =
    let run = run_bytes log waiting page (located log waiting page entry offset) in
    cond (ltb offset (entry_of entry).size) (run ++ laid k log waiting page entry (offset + length run)) []

-- the run's bytes are the file's: at least one, none past its size, each the byte that look-up's definition has there
abbrev pub RunIsTheFiles : Type 0
RunIsTheFiles = (log waiting page entry : Bytes) (offset : ℕ) → Answers (located log waiting page entry offset)
    → let b = run_bytes log waiting page (located log waiting page entry offset) in
    (1 ≤ length b) × (offset + length b ≤ (entry_of entry).size) × ((j : ℕ) → j < length b → file_byte (tape log waiting) entry (offset + j) ≡ some (get_or b j 0))

-- where every offset reads, the runs laid end to end are the file's `size` bytes
abbrev pub WholeFile : Type 0
WholeFile = (log waiting page entry : Bytes) → ((o : ℕ) → o < (entry_of entry).size → Answers (located log waiting page entry o))
    → let b = laid (entry_of entry).size log waiting page entry 0 in
    (length b ≡ (entry_of entry).size) × ((i : ℕ) → i < (entry_of entry).size → file_byte (tape log waiting) entry i ≡ some (get_or b i 0))
