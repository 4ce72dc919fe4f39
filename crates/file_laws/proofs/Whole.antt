-- A filled buffer has the runs laid end to end; where every offset reads, the whole file.
use mathlib.Core.Path.{◌≡◌, refl, sym, ap, ◌∙◌}
use mathlib.Core.Bool.{Bool, true, false}
use mathlib.Core.List.{◌++◌}
use mathlib.Core.Option.{some}
use Prim.Native.Nat.{ℕ, zero, suc, ◌+◌, ◌-◌, ◌≤◌, ◌<◌, min}
use native.Mathlib.Omega.{arith}
use lib.Dec.{ltb}
use borrow.Author.Tests.{ltb-true, ltb-false, lt-ltb}
use lib.ListN.{length, take, get_or, length-append, get_or-append}
use lib.Seq.{ext_get_or, get_or-take, get_or-append-add, length-take-le}
use Rattle.bedrock.proofs.Choices.{some_same}
use Rattle.buffer.specs.Bytes.{Bytes}
use Rattle.buffer.proofs.Put.{length-put}
use Rattle.refusal.specs.declared.Refusal.{Refusal}
use Rattle.sector_log.specs.LookUp.{lent_allowed}
use Rattle.sector_log.specs.Parts.{tape}
use Rattle.entry.specs.Entry.{entry_of}
use Rattle.leaf.specs.declared.Extent.{Extent}
use Rattle.leaf.specs.declared.Extent.TheVariants as run
use Rattle.file.specs.File.{page_allowed, extent_at, located}
use Rattle.fill.specs.Fill.{byte_at, gathered, FillOutcome, fill_in}
use Rattle.file_laws.specs.Path.{Answers}
use Rattle.file_laws.specs.Bytes.{run_bytes, file_byte, laid}
use Rattle.file_laws.specs.Fill.{FillIsTheRuns, FillFrom, FillWhole}
use Rattle.file_laws.proofs.Extents.{Reads, shown-reads, shown-answers}
use Rattle.file_laws.proofs.Runs.{through}
use Rattle.file_laws.proofs.Laid.{run-bytes}
use Rattle.file_laws.proofs.Gathered.{gathers}
use Rattle.file_laws.proofs.Filled.{byte-answers, byte-refused, Course, stopped, down, course, files_in}
use Rattle.std.specs.Prelude.{Ok, Err, Result, ⊤}

-- ---- runs laid end to end, as far as every offset reads

module _ (log waiting page entry : Bytes) where
  size : ℕ
  size = (entry_of entry).size

  -- the first n bytes of b are the file's from the offset on
  abbrev Front : ℕ → ℕ → Bytes → Type 0
  Front n offset b = (n ≤ length b) × ((i : ℕ) → i < n → file_byte (tape log waiting) entry (offset + i) ≡ some (get_or b i 0))

  no_front : (n offset : ℕ) (b : Bytes) → n ≤ 0 → Front n offset b
  no_front n offset b h = (omega arith, λ i g. absurd (omega arith))

  front-more : (n offset : ℕ) (b rest : Bytes) → ((j : ℕ) → j < length b → file_byte (tape log waiting) entry (offset + j) ≡ some (get_or b j 0))
      → Front (n - length b) (offset + length b) rest → Front n offset (b ++ rest)
  front-more n offset b rest f R = (omega (arith, length-append b rest, R.0), λ i g. go i g (ltb i (length b)) refl)
    where
      go : (i : ℕ) → i < n → (t : Bool) → ltb i (length b) ≡ t → file_byte (tape log waiting) entry (offset + i) ≡ some (get_or (b ++ rest) i 0)
      go i g true q = let lt = ltb-true i (length b) q in f i lt ∙ ap (λ (y : ℕ). some y) (sym (get_or-append b rest 0 i lt))
      go i g false q =
          let ge = ltb-false i (length b) q in
          let m : offset + i ≡ offset + length b + (i - length b) = omega arith in
          let k : length b + (i - length b) ≡ i = omega arith in
          ap (file_byte (tape log waiting) entry) m ∙ R.1 (i - length b) (omega arith)
          ∙ ap (λ (y : ℕ). some y) (sym (get_or-append-add b rest (i - length b) 0) ∙ ap (λ (y : ℕ). get_or (b ++ rest) y 0) k)

  laid-front : (k n offset : ℕ) → n ≤ k → offset + n ≤ size → ((o : ℕ) → offset ≤ o → o < offset + n → Answers (located log waiting page entry o))
      → Front n offset (laid k log waiting page entry offset)
  unfolding laid size
  laid-front zero n offset h s a = no_front n offset (laid 0 log waiting page entry offset) (omega arith)
  laid-front (suc k) n offset h s a = go (ltb 0 n) refl (laid-front k)
    where
      go : (t : Bool) → ltb 0 n ≡ t
          → ((m o : ℕ) → m ≤ k → o + m ≤ size → ((p : ℕ) → o ≤ p → p < o + m → Answers (located log waiting page entry p)) → Front m o (laid k log waiting page entry o))
          → Front n offset (laid (suc k) log waiting page entry offset)
      go false q f = no_front n offset (laid (suc k) log waiting page entry offset) (ltb-false 0 n q)
      go true q f =
          let pos = ltb-true 0 n q in
          let inside : offset < size = omega arith in
          let b = run_bytes log waiting page (located log waiting page entry offset) in
          let R = run-bytes log waiting page entry offset (a offset (omega arith) (omega arith)) in
          let rest = f (n - length b) (offset + length b) (omega (arith, R.0)) (omega (arith, R.1)) (λ o g l. a o (omega arith) (omega (arith, g, l))) in
          rw (lt-ltb offset size inside) (front-more n offset b (laid k log waiting page entry (offset + length b)) R.2 rest)

-- ---- what is filled

-- every offset that was filled reads
filled-reads : (lent : Bool) (log page entry : Bytes) (offset : ℕ) (d : Bytes) → page_allowed page ≡ true → (r : FillOutcome) → Course lent log entry offset d r
    → (o : ℕ) → offset ≤ o → o < offset + r.filled.count → Reads (extent_at lent log page entry o)
filled-reads lent log page entry offset d p r (stopped w e h) o g l = absurd (omega (arith, ap (λ (x : FillOutcome). x.filled.count) e))
filled-reads lent log page entry offset d p r (down inside e) o g l =
    let G = gathers (byte_at lent log entry) (min (length d) ((entry_of entry).size - offset)) offset in
    let c = ap (λ (x : FillOutcome). x.filled.count) e in
    let z : offset + (o - offset) ≡ o = omega arith in
    byte-answers lent log entry page p o _ (ap (byte_at lent log entry) (sym z) ∙ G.each (o - offset) (omega (arith, c)))

-- done is full
done_full : (lent : Bool) (log entry : Bytes) (offset : ℕ) (d : Bytes) (r : FillOutcome) → Course lent log entry offset d r → r.filled.stop ≡ Ok tt
    → r.filled.count ≡ min (length d) ((entry_of entry).size - offset)
done_full lent log entry offset d r (stopped w e h) q =
    let y : Err w ≡ Ok tt = ap (λ (o : FillOutcome). o.filled.stop) (sym e) ∙ q in
    let z : ◌≡◌ {A = ℕ} 0 1 = cc in absurd (omega arith)
done_full lent log entry offset d r (down inside e) q =
    ap (λ (o : FillOutcome). o.filled.count) e
    ∙ (gathers (byte_at lent log entry) (min (length d) ((entry_of entry).size - offset)) offset).done (ap (λ (o : FillOutcome). o.filled.stop) (sym e) ∙ q)

pub buffer-long : (lent : Bool) (log entry : Bytes) (offset : ℕ) (d : Bytes) → Course lent log entry offset d (fill_in lent log entry offset d)
    → (fill_in lent log entry offset d).filled.count ≤ length (fill_in lent log entry offset d).buffer
buffer-long lent log entry offset d (stopped w e h) = rw e (omega arith)
buffer-long lent log entry offset d (down inside e) =
    let x = (gathered (byte_at lent log entry) (min (length d) ((entry_of entry).size - offset)) offset).bytes in
    let few = (gathers (byte_at lent log entry) (min (length d) ((entry_of entry).size - offset)) offset).few in
    rw e (omega (arith, few, length-put d 0 x (omega (arith, few))))

pub fill_runs : FillIsTheRuns
unfolding size
fill_runs log waiting page entry offset d p =
    (go (ltb offset (entry_of entry).size) refl, done_full lent both entry offset d (fill_in lent both entry offset d) (course lent both entry offset d))
  where
    lent : Bool
    lent = lent_allowed (length log) (length waiting)

    both : Bytes
    both = tape log waiting

    r : FillOutcome
    r = fill_in lent both entry offset d

    c : ℕ
    c = r.filled.count

    b : Bytes
    b = laid c log waiting page entry offset

    go : (t : Bool) → ltb offset (entry_of entry).size ≡ t → take c r.buffer ≡ take c b
    go false q =
        let z : c ≡ 0 = omega (arith, (files_in lent both entry offset d).1, ltb-false offset (entry_of entry).size q) in
        ap (λ (k : ℕ). take k r.buffer) z ∙ sym (ap (λ (k : ℕ). take k b) z)
    go true q =
        let F = files_in lent both entry offset d in
        let inside = ltb-true offset (entry_of entry).size q in
        let L = laid-front log waiting page entry c c offset (omega arith) (omega (arith, F.1))
        (λ o g l. shown-answers log waiting page entry o (filled-reads lent both page entry offset d p r (course lent both entry offset d) o g l)) in
        let left : length (take c r.buffer) ≡ c = length-take-le c r.buffer (buffer-long lent both entry offset d (course lent both entry offset d)) in
        let right : length (take c b) ≡ c = length-take-le c b L.0 in
        ext_get_or 0 (take c r.buffer) (take c b) (left ∙ sym right)
        (λ i h. let g : i < c = omega arith in
        get_or-take c r.buffer i 0 g ∙ some_same _ _ (sym (F.2 i g) ∙ L.1 i g) ∙ sym (get_or-take c b i 0 g))

-- ---- the whole file

refused_none : (x : Result Extent Refusal) (w : Refusal) → x ≡ Err w → Reads x → ⊥
refused_none x w e a = rw e at a

from-count : (lent : Bool) (log page entry : Bytes) (offset : ℕ) (d : Bytes) → offset < (entry_of entry).size
    → ((o : ℕ) → offset ≤ o → o < (entry_of entry).size → Reads (extent_at lent log page entry o)) → (r : FillOutcome) → Course lent log entry offset d r
    → (r.filled.count ≡ min (length d) ((entry_of entry).size - offset)) × (r.filled.stop ≡ Ok tt)
from-count lent log page entry offset d inside a r (stopped w e f) =
    let here = a offset (omega arith) inside in
    let T = through lent log page entry offset here in
    absurd (refused_none (extent_at lent log page entry offset) w (sym (f page T.zeros)) here)
from-count lent log page entry offset d inside a r (down pos e) = go (gathered (byte_at lent log entry) (min (length d) ((entry_of entry).size - offset)) offset).stop refl
  where
    go : (s : Result ⊤ Refusal) → (gathered (byte_at lent log entry) (min (length d) ((entry_of entry).size - offset)) offset).stop ≡ s
        → (r.filled.count ≡ min (length d) ((entry_of entry).size - offset)) × (r.filled.stop ≡ Ok tt)
    go (Ok tt) q = (
      ap (λ (o : FillOutcome). o.filled.count) e ∙ (gathers (byte_at lent log entry) (min (length d) ((entry_of entry).size - offset)) offset).done q,
      ap (λ (o : FillOutcome). o.filled.stop) e ∙ q,
    )
    go (Err w) q =
        let n = min (length d) ((entry_of entry).size - offset) in
        let t = (gathers (byte_at lent log entry) n offset).ends w q in
        let o = offset + length (gathered (byte_at lent log entry) n offset).bytes in
        let T = through lent log page entry offset (a offset (omega arith) inside) in
        absurd (refused_none (extent_at lent log page entry o) w (byte-refused lent log entry page T.zeros o w t.1) (a o (omega arith) (omega (arith, t.0))))

pub fill_from : FillFrom
fill_from log waiting page entry offset d inside a =
    let lent = lent_allowed (length log) (length waiting) in
    let both = tape log waiting in
    from-count lent both page entry offset d inside (λ o f g. shown-reads log waiting page entry o (a o f g)) (fill_in lent both entry offset d) (course lent both entry offset d)

pub fill_whole : FillWhole
fill_whole log waiting page entry d a h =
    let F = files_in (lent_allowed (length log) (length waiting)) (tape log waiting) entry 0 d in
    let W = go (ltb 0 (entry_of entry).size) refl in (
      W.0,
      λ i g. let z : i ≡ 0 + i = omega arith in ap (file_byte (tape log waiting) entry) z ∙ F.2 i (omega (arith, W.0)),
      W.1,
    )
  where
    go : (t : Bool) → ltb 0 (entry_of entry).size ≡ t → let r = fill_in (lent_allowed (length log) (length waiting)) (tape log waiting) entry 0 d in
        (r.filled.count ≡ (entry_of entry).size) × (0 < (entry_of entry).size → r.filled.stop ≡ Ok tt)
    go true q = let R = fill_from log waiting page entry 0 d (ltb-true 0 (entry_of entry).size q) (λ o f g. a o g) in (omega (arith, R.0), λ _. R.1)
    go false q =
        let F = files_in (lent_allowed (length log) (length waiting)) (tape log waiting) entry 0 d in
        let z = ltb-false 0 (entry_of entry).size q in
        (omega (arith, F.1), λ pos. absurd (omega arith))
