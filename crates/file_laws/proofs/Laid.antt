-- A run is some of the file's bytes, one at least; laid end to end from the front on, the runs are the whole file.
use mathlib.Core.Path.{◌≡◌, refl, sym, ap, ◌∙◌}
use mathlib.Core.Bool.{Bool, true, false, not}
use mathlib.Core.List.{[], ◌++◌}
use mathlib.Core.Option.{Option, some}
use Prim.Native.Nat.{ℕ, zero, suc, ◌+◌, ◌-◌, ◌%◌, ◌≤◌, ◌<◌, min}
use native.Mathlib.Nat.{mod-lt}
use native.Mathlib.Omega.{arith}
use lib.Dec.{ltb, eqb}
use borrow.Author.Tests.{ltb-true, ltb-false, eqb-false, not-true}
use lib.ListN.{length, take, drop, get_or, length-append, length-drop, get_or-append}
use lib.Seq.{length-take-le, get_or-take, get_or-drop, get_or-append-add}
use Rattle.bedrock.proofs.Choices.{and-true}
use Rattle.buffer.specs.Bytes.{Bytes, zeros}
use Rattle.buffer.proofs.Bytes.{zeros_get_d}
use Rattle.block.specs.Block.{Row, payload, place_of}
use Rattle.sector_log.specs.LookUp.{held, lent_allowed}
use Rattle.sector_log.specs.Parts.{tape}
use Rattle.entry.specs.declared.Entry.{Entry}
use Rattle.entry.specs.Entry.{entry_of, score_of}
use Rattle.leaf.specs.declared.Extent.{Extent}
use Rattle.leaf.specs.Leaf.{zero_run, stored_run}
use Rattle.file.specs.File.{page_allowed, extent_at, located}
use Rattle.fill.proofs.Leaf.{same-leaf}
use Rattle.file_laws.specs.Path.{Answers}
use Rattle.file_laws.specs.Bytes.{run_bytes, byte_under, file_byte, laid, RunIsTheFiles, WholeFile}
use Rattle.file_laws.proofs.Extents.{Reads, extent_bytes, shown-bytes, shown-reads}
use Rattle.file_laws.proofs.Stored.{stored_bytes, room-left}
use Rattle.file_laws.proofs.Runs.{least_pos, least-below, through, Onward, Run, under-run, nothing, block}
use Rattle.std.specs.Prelude.{Result}
use Rattle.refusal.specs.declared.Refusal.{Refusal}

-- ---- one run

-- bytes of the file from the offset on, one at least
abbrev pub Next : Entry → ℕ → (ℕ → Option ℕ) → Bytes → Type 0
Next e offset byte b = (1 ≤ length b) × (offset + length b ≤ e.size) × ((j : ℕ) → j < length b → byte (offset + j) ≡ some (get_or b j 0))

pub page_facts : (page : Bytes) → page_allowed page ≡ true → (0 < length page) × (zeros page ≡ true)
unfolding page_allowed
page_facts page h =
    let p = and-true (not (eqb (length page) 0)) (zeros page) h in
    let n = eqb-false (length page) 0 (not-true (eqb (length page) 0) p.0) in
    (omega (arith, n), p.1)

module _ (log page : Bytes) (e : Entry) (offset : ℕ) (byte : ℕ → Option ℕ) (dsize : 0 < e.dsize) (inside : offset < e.size) where
  k : ℕ
  k = offset % e.dsize

  k_lt : k < e.dsize
  unfolding k
  k_lt = mod-lt offset dsize

  zeros-next : page_allowed page ≡ true → ((o : ℕ) → Onward e offset o → byte o ≡ some 0) → Next e offset byte (extent_bytes log page (zero_run (length page) e offset))
  unfolding k
  zeros-next p f =
      let P = page_facts page p in
      let n = min (length page) (min (e.dsize - k) (e.size - offset)) in
      let pos : 0 < n = least_pos (length page) (e.dsize - k) (e.size - offset) P.0 (omega (arith, k_lt)) (omega arith) in
      let le = least-below (length page) (e.dsize - k) (e.size - offset) in
      let l : length (take n page) ≡ n = length-take-le n page le.0 in (
        omega arith,
        omega (arith, l, le.2),
        λ j h. let s = same-leaf e.dsize offset j dsize (omega (arith, l, le.1)) in
            f (offset + j) (s.0, omega (arith, s.1)) ∙ ap (λ (x : ℕ). some x) (sym (get_or-take n page j 0 (omega arith) ∙ zeros_get_d page j P.1)),
      )

  stored_next : (t : ℕ) (s : Bytes) (r : Row) → held log t s ≡ some r → offset % e.dsize < length r.bytes → length r.bytes ≤ e.dsize
      → ((o : ℕ) → Onward e offset o → byte o ≡ some (get_or r.bytes (o % e.dsize) 0))
      → Next e offset byte (extent_bytes log page (stored_run e offset (place_of r)))
  unfolding k
  stored_next t s r h lt short f =
      let size = length r.bytes in
      let n = min (payload r - k % payload r) (min (size - k) (e.size - offset)) in
      let pos : 0 < n = least_pos (payload r - k % payload r) (size - k) (e.size - offset) (room-left log t s r h k) (omega arith) (omega arith) in
      let le = least-below (payload r - k % payload r) (size - k) (e.size - offset) in
      let fits : k + n ≤ size = omega (arith, le.1) in
      let l : length (take n (drop k r.bytes)) ≡ n = length-take-le n (drop k r.bytes) (rw (length-drop k r.bytes) le.1) in
      rw (stored_bytes log t s r h k n pos le.0 fits) (
        omega arith,
        omega (arith, l, le.2),
        λ j g. let u = same-leaf e.dsize offset j dsize (omega (arith, l)) in
            f (offset + j) (u.0, omega (arith, u.1))
            ∙ ap (λ (x : ℕ). some (get_or r.bytes x 0)) u.1
            ∙ ap (λ (x : ℕ). some x) (sym (get_or-take n (drop k r.bytes) j 0 (omega arith) ∙ get_or-drop k r.bytes j 0)),
      )

  run-next : (x : Result Extent Refusal) → page_allowed page ≡ true → Run log (length page) e offset byte x → Next e offset byte (extent_bytes log page x)
  run-next x p (nothing a f) = rw a (zeros-next p f)
  run-next x p (block t s r h lt short a f) = rw a (stored_next t s r h lt short f)

pub run_in_lem : (lent : Bool) (log page entry : Bytes) (offset : ℕ) → Reads (extent_at lent log page entry offset)
    → Next (entry_of entry) offset (file_byte log entry) (extent_bytes log page (extent_at lent log page entry offset))
unfolding file_byte
run_in_lem lent log page entry offset a =
    let T = through lent log page entry offset a in
    let e = entry_of entry in
    let byte : ℕ → Option ℕ = λ o. byte_under log e o e.depth (score_of entry) in
    rw (← T.goes_down_to) (run-next log page e offset byte (omega (arith, T.bounds.dsize-from)) T.bounds.inside _ T.zeros
    (under-run log (length page) e offset e.depth (score_of entry) (rw T.goes_down_to a)))

pub run-bytes : RunIsTheFiles
run-bytes log waiting page entry offset a =
    rw (shown-bytes log waiting page entry offset)
    (run_in_lem (lent_allowed (length log) (length waiting)) (tape log waiting) page entry offset (shown-reads log waiting page entry offset a))

-- ---- all runs

module _ (log waiting page entry : Bytes) (answers : (o : ℕ) → o < (entry_of entry).size → Answers (located log waiting page entry o)) where
  size : ℕ
  size = (entry_of entry).size

  -- what is laid from an offset on is the rest of the file
  abbrev Rest : ℕ → Bytes → Type 0
  Rest offset b = (length b ≡ size - offset) × ((i : ℕ) → i < size - offset → file_byte (tape log waiting) entry (offset + i) ≡ some (get_or b i 0))

  none_left : (offset : ℕ) → size ≤ offset → Rest offset []
  none_left offset h = (omega arith, λ i g. absurd (omega arith))

  one_more : (offset : ℕ) (b rest : Bytes) → offset + length b ≤ size → ((j : ℕ) → j < length b → file_byte (tape log waiting) entry (offset + j) ≡ some (get_or b j 0))
      → Rest (offset + length b) rest → Rest offset (b ++ rest)
  one_more offset b rest h f R = (omega (arith, length-append b rest, R.0), λ i g. go i g (ltb i (length b)) refl)
    where
      go : (i : ℕ) → i < size - offset → (t : Bool) → ltb i (length b) ≡ t → file_byte (tape log waiting) entry (offset + i) ≡ some (get_or (b ++ rest) i 0)
      go i g true q = let lt = ltb-true i (length b) q in f i lt ∙ ap (λ (x : ℕ). some x) (sym (get_or-append b rest 0 i lt))
      go i g false q =
          let ge = ltb-false i (length b) q in
          let m : offset + i ≡ offset + length b + (i - length b) = omega arith in
          let n : length b + (i - length b) ≡ i = omega arith in
          ap (file_byte (tape log waiting) entry) m ∙ R.1 (i - length b) (omega arith)
          ∙ ap (λ (x : ℕ). some x) (sym (get_or-append-add b rest (i - length b) 0) ∙ ap (λ (x : ℕ). get_or (b ++ rest) x 0) n)

  rest-laid : (k offset : ℕ) → size ≤ offset + k → Rest offset (laid k log waiting page entry offset)
  unfolding laid size
  rest-laid zero offset h = none_left offset (omega arith)
  rest-laid (suc k) offset h = go (ltb offset size) refl (rest-laid k)
    where
      go : (b : Bool) → ltb offset size ≡ b → ((o : ℕ) → size ≤ o + k → Rest o (laid k log waiting page entry o)) → Rest offset (laid (suc k) log waiting page entry offset)
      go false q f = rw q (none_left offset (ltb-false offset size q))
      go true q f =
          let run = run_bytes log waiting page (located log waiting page entry offset) in
          let R = run-bytes log waiting page entry offset (answers offset (ltb-true offset size q)) in
          rw q (one_more offset run (laid k log waiting page entry (offset + length run)) R.1 R.2 (f (offset + length run) (omega (arith, R.0))))

pub whole-file : WholeFile
unfolding size
whole-file log waiting page entry answers =
    let n = (entry_of entry).size in
    let R = rest-laid log waiting page entry answers n 0 (omega arith) in (
      omega (arith, R.0),
      λ i h. let z : i ≡ 0 + i = omega arith in ap (file_byte (tape log waiting) entry) z ∙ R.1 i (omega arith),
    )
