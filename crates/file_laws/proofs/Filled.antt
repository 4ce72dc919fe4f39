-- A filled buffer has the file's bytes, those of its runs, and the refusal of the offset where it stopped.
use mathlib.Core.Path.{◌≡◌, refl, sym, ap, ◌∙◌}
use mathlib.Core.Bool.{Bool, true, false}
use mathlib.Core.List.{[], ◌∷◌}
use mathlib.Core.Option.{none, some}
use Prim.Native.Nat.{ℕ, ◌+◌, ◌-◌, ◌*◌, ◌≤◌, ◌<◌, min}
use native.Mathlib.Nat.{add-zero, zero-add}
use native.Mathlib.Omega.{arith}
use lib.Dec.{ltb}
use borrow.Author.Tests.{ltb-true, ltb-false}
use lib.ListN.{length, drop, get_or, length-take, get_or-append}
use lib.Seq.{get_or-take, get_or-drop}
use Rattle.buffer.specs.Bytes.{Bytes, put}
use Rattle.buffer.proofs.Bytes.{zeros_get_d}
use Rattle.buffer.proofs.Put.{put_front, drop-put}
use Rattle.refusal.specs.declared.Refusal.{Refusal}
use Rattle.refusal.specs.declared.Refusal.TheVariants as why
use Rattle.block.specs.Log.{used}
use Rattle.sector_log.specs.LookUp.{lent_allowed}
use Rattle.sector_log.specs.Parts.{tape}
use Rattle.entry.specs.declared.Entry.{Entry}
use Rattle.entry.specs.Entry.{entry_of}
use Rattle.leaf.specs.declared.Extent.{Extent}
use Rattle.leaf.specs.declared.Extent.TheVariants as run
use Rattle.file.specs.File.{page_allowed, entry_readable, extent_at, split, located}
use Rattle.file.proofs.Tests.{stops_log, stops_entry, stops_offset}
use Rattle.fill.specs.Fill.{byte, refused, byte_of, byte_at, gathered, FillOutcome, filled_with, fill_in}
use Rattle.fill.proofs.Tests.{zero-page, nothing}
use Rattle.file_laws.specs.Bytes.{file_byte}
use Rattle.file_laws.specs.Fill.{FillIsTheFiles, FillRefusal}
use Rattle.file_laws.proofs.Extents.{Reads, extent_bytes}
use Rattle.file_laws.proofs.Laid.{page_facts, run_in_lem}
use Rattle.file_laws.proofs.Pages.{why_not, refused_why, answers-why, any_page}
use Rattle.file_laws.proofs.Gathered.{Gathers, gathers}
use Rattle.std.specs.Prelude.{⊤, Err, Ok, Result}

-- ---- the byte that is read

-- the first byte of a run that has one
first-of-run : (log page : Bytes) (x : Result Extent Refusal) (b : ℕ) → page_allowed page ≡ true → 1 ≤ length (extent_bytes log page x) → byte_of log x ≡ byte b
    → get_or (extent_bytes log page x) 0 0 ≡ b
first-of-run log page (Ok (run.Stored at n)) b p h e =
    let z : get_or log at 0 ≡ b = cc in
    let k : 0 < n = omega (arith, length-take n (drop at log)) in
    let a : at + 0 ≡ at = omega arith in
    get_or-take n (drop at log) 0 0 k ∙ get_or-drop at log 0 0 ∙ ap (λ (i : ℕ). get_or log i 0) a ∙ z
first-of-run log page (Ok (run.Zeros n)) b p h e =
    let z : 0 ≡ b = cc in
    let k : 0 < n = omega (arith, length-take n page) in
    get_or-take n page 0 0 k ∙ zeros_get_d page 0 (page_facts page p).1 ∙ z
first-of-run log page (Err w) b p h e = absurd (omega arith)

read-answers : (log : Bytes) (x : Result Extent Refusal) (b : ℕ) → byte_of log x ≡ byte b → why_not x ≡ none
read-answers log (Ok (run.Stored at n)) b e = refl
read-answers log (Ok (run.Zeros n)) b e = refl
read-answers log (Err w) b e = let z : ◌≡◌ {A = ℕ} 0 1 = cc in absurd (omega arith)

read-refused : (log : Bytes) (x : Result Extent Refusal) (w : Refusal) → byte_of log x ≡ refused w → why_not x ≡ some w
read-refused log (Ok (run.Stored at n)) w e = let z : ◌≡◌ {A = ℕ} 0 1 = cc in absurd (omega arith)
read-refused log (Ok (run.Zeros n)) w e = let z : ◌≡◌ {A = ℕ} 0 1 = cc in absurd (omega arith)
read-refused log (Err v) w e = let z : v ≡ w = cc in ap (λ (x : Refusal). some x) z

module _ (lent : Bool) (log entry : Bytes) where
  zero-run : ℕ → Result Extent Refusal
  zero-run o = extent_at lent log (0 ∷ []) entry o

  -- the byte that is read is the file's
  byte_files : (o b : ℕ) → byte_at lent log entry o ≡ byte b → file_byte log entry o ≡ some b
  unfolding zero-run
  byte_files o b e =
      let a : Reads (zero-run o) = answers-why (zero-run o) (read-answers log (zero-run o) b e) in
      let R = run_in_lem lent log (0 ∷ []) entry o a in
      let z : o ≡ o + 0 = omega arith in
      ap (file_byte log entry) z ∙ R.2 0 (omega (arith, R.0)) ∙ ap (λ (x : ℕ). some x) (first-of-run log (0 ∷ []) (zero-run o) b zero-page R.0 e)

  module _ (page : Bytes) (p : page_allowed page ≡ true) (o : ℕ) where
    pub byte-answers : (b : ℕ) → byte_at lent log entry o ≡ byte b → Reads (extent_at lent log page entry o)
    byte-answers b e = answers-why (extent_at lent log page entry o) (any_page lent log page (0 ∷ []) entry o p zero-page ∙ read-answers log (extent_at lent log (0 ∷ []) entry o) b e)

    pub byte-refused : (w : Refusal) → byte_at lent log entry o ≡ refused w → extent_at lent log page entry o ≡ Err w
    byte-refused w e = refused_why (extent_at lent log page entry o) w (any_page lent log page (0 ∷ []) entry o p zero-page ∙ read-refused log (extent_at lent log (0 ∷ []) entry o) w e)

-- ---- the tests

-- a test stopped it, or it goes down
pub data Course (lent : Bool) (log entry : Bytes) (offset : ℕ) (d : Bytes) (x : FillOutcome) : Type 0 where
  stopped : (w : Refusal) → x ≡ nothing d w → ((page : Bytes) → page_allowed page ≡ true → Err w ≡ extent_at lent log page entry offset) → Course lent log entry offset d x
  down : offset < (entry_of entry).size → x ≡ filled_with d (gathered (byte_at lent log entry) (min (length d) ((entry_of entry).size - offset)) offset) → Course lent log entry offset d x

pub course : (lent : Bool) (log entry : Bytes) (offset : ℕ) (d : Bytes) → Course lent log entry offset d (fill_in lent log entry offset d)
unfolding fill_in
course lent log entry offset d = go (lent) (entry_readable entry) (ltb offset (entry_of entry).size) refl refl refl
  where
    go : (a r t : Bool) → lent ≡ a → entry_readable entry ≡ r → ltb offset (entry_of entry).size ≡ t → Course lent log entry offset d (fill_in lent log entry offset d)
    go false r t p q u = stopped why.LogLength (rw p refl) (λ page h. stops_log lent log page entry offset false (sym p) refl)
    go true false t p q u = stopped why.Entry (rw (p, q) refl) (λ page h. stops_entry lent log page entry offset true (sym p) refl true (sym h) refl false (sym q) refl)
    go true true false p q u =
        stopped why.Offset (rw (p, q, u) refl)
        (λ page h. stops_offset lent log page entry offset true (sym p) refl true (sym h) refl true (sym q) refl (entry_of entry) refl (ltb-false offset (entry_of entry).size u))
    go true true true p q u = down (ltb-true offset (entry_of entry).size u) (rw (p, q, u) refl)

-- ---- the file's bytes

module _ (lent : Bool) (log entry : Bytes) (offset : ℕ) (d : Bytes) where
  n : ℕ
  n = min (length d) ((entry_of entry).size - offset)

  n-fits : (n ≤ length d) × (n ≤ (entry_of entry).size - offset)
  unfolding n
  n-fits = (omega arith, omega arith)

  x : Bytes
  x = (gathered (byte_at lent log entry) n offset).bytes

  G : Gathers (byte_at lent log entry) n offset (gathered (byte_at lent log entry) n offset)
  G = gathers (byte_at lent log entry) n offset

  front : (i : ℕ) → i < length x → get_or (put d 0 x) i 0 ≡ get_or x i 0
  front i h = ap (λ (y : Bytes). get_or y i 0) (put_front d x) ∙ get_or-append x (drop (length x) d) 0 i h

  -- of an outcome
  abbrev pub Files : FillOutcome → Type 0
  Files r =
      (r.filled.count ≤ length d)
      × (r.filled.count ≤ (entry_of entry).size - offset)
      × ((i : ℕ) → i < r.filled.count → file_byte log entry (offset + i) ≡ some (get_or r.buffer i 0))
      × (drop r.filled.count r.buffer ≡ drop r.filled.count d)

  files : Course lent log entry offset d (fill_in lent log entry offset d) → Files (fill_in lent log entry offset d)
  unfolding n x G
  files (stopped w e h) = rw e (omega arith, omega arith, λ i g. absurd (omega arith), refl)
  files (down inside e) =
      let few = G.few in
      let z : 0 + length x ≡ length x = zero-add (length x) in
      rw e (
        omega (arith, few, n-fits.0),
        omega (arith, few, n-fits.1),
        λ i g. byte_files lent log entry (offset + i) _ (G.each i g) ∙ ap (λ (y : ℕ). some y) (sym (front i g)),
        ap (λ (k : ℕ). drop k (put d 0 x)) (sym z) ∙ drop-put d 0 x (omega (arith, few, n-fits.0)) ∙ ap (λ (k : ℕ). drop k d) z,
      )

pub files_in : (lent : Bool) (log entry : Bytes) (offset : ℕ) (d : Bytes) → Files lent log entry offset d (fill_in lent log entry offset d)
unfolding n
files_in lent log entry offset d = files lent log entry offset d (course lent log entry offset d)

pub fill_files : FillIsTheFiles
fill_files log waiting entry offset d = files_in (lent_allowed (length log) (length waiting)) (tape log waiting) entry offset d

-- ---- the refusal

refusal_in : (lent : Bool) (log page entry : Bytes) (offset : ℕ) (d : Bytes) (w : Refusal) → page_allowed page ≡ true → (r : FillOutcome) → Course lent log entry offset d r
    → r.filled.stop ≡ Err w → extent_at lent log page entry (offset + r.filled.count) ≡ Err w
refusal_in lent log page entry offset d w p r (stopped v e h) q =
    let c : v ≡ w = let y : ◌≡◌ {A = Result ⊤ Refusal} (Err v) (Err w) = ap (λ (o : FillOutcome). o.filled.stop) (sym e) ∙ q in cc in
    let z : offset + r.filled.count ≡ offset = ap (λ (o : FillOutcome). offset + o.filled.count) e ∙ add-zero offset in
    ap (extent_at lent log page entry) z ∙ sym (h page p) ∙ ap Err c
refusal_in lent log page entry offset d w p r (down inside e) q =
    let n = min (length d) ((entry_of entry).size - offset) in
    let g = gathered (byte_at lent log entry) n offset in
    let t = (gathers (byte_at lent log entry) n offset).ends w (ap (λ (o : FillOutcome). o.filled.stop) (sym e) ∙ q) in
    ap (λ (o : FillOutcome). extent_at lent log page entry (offset + o.filled.count)) e ∙ byte-refused lent log entry page p (offset + length g.bytes) w t.1

pub fill_refusal : FillRefusal
unfolding located
fill_refusal log waiting page entry offset d w p q =
    let lent = lent_allowed (length log) (length waiting) in
    let both = tape log waiting in
    ap (split (512 * used log)) (refusal_in lent both page entry offset d w p (fill_in lent both entry offset d) (course lent both entry offset d) q)
