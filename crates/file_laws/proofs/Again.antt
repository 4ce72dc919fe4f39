-- Reading again: a log that holds what an earlier one held answers as that one did, with the same run, place and bytes.
use mathlib.Core.Path.{◌≡◌, refl, sym, ap, ◌∙◌}
use mathlib.Core.Bool.{Bool, true, false, cond}
use mathlib.Core.Option.{Option, some}
use Prim.Native.Nat.{ℕ, zero, suc, ◌+◌, ◌-◌, ◌%◌, ◌≤◌, ◌<◌, min}
use native.Mathlib.Omega.{arith}
use lib.Dec.{ltb, eqb}
use lib.ListN.{length}
use Rattle.buffer.specs.Bytes.{Bytes, same}
use Rattle.kind.specs.Kind.{zero_score}
use Rattle.refusal.specs.declared.Refusal.{Refusal}
use Rattle.refusal.specs.declared.Refusal.TheVariants as why
use Rattle.block.specs.Block.{Row, payload, place_of}
use Rattle.sector_log.specs.LookUp.{held, lent_allowed}
use Rattle.sector_log.specs.Parts.{tape}
use Rattle.entry.specs.declared.Entry.{Entry}
use Rattle.entry.specs.Entry.{entry_of, score_of}
use Rattle.leaf.specs.declared.Extent.{Extent}
use Rattle.tree.specs.Tree.{pointer, type_at}
use Rattle.leaf.specs.Leaf.{zero_run, leaf_run, fetched, pointer_index, under}
use Rattle.file.specs.File.{page_allowed, entry_readable, test, extent_at, located}
use Rattle.file_laws.specs.Path.{Answers}
use Rattle.file_laws.specs.Bytes.{run_bytes, byte_under}
use Rattle.file_laws.proofs.Extents.{Reads, extent_bytes, shown-bytes, shown-reads}
use Rattle.file_laws.proofs.Missing.{held_if}
use Rattle.file_laws.proofs.Stored.{stored_bytes, room-left}
use Rattle.file_laws.proofs.Runs.{least_pos, least-below, through, Run, under-run, nothing, block}
use Rattle.std.specs.Prelude.{Result}

-- ---- an answer that is the same wherever the answer below is

test_again : (b : Bool) (w : Refusal) (x x' : Result Extent Refusal) → (Reads x → x' ≡ x) → Reads (test b w x) → test b w x' ≡ test b w x
test_again true w x x' f a = f a
test_again false w x x' f a = refl

else_again : (b : Bool) (x y y' : Result Extent Refusal) → (Reads y → y' ≡ y) → Reads (cond b x y) → cond b x y' ≡ cond b x y
else_again true x y y' f a = refl
else_again false x y y' f a = f a

module _ (log log' : Bytes) (more : (t : ℕ) (s : Bytes) (r : Row) → held log t s ≡ some r → held log' t s ≡ some r) where
  fetched_again : (t : ℕ) (s : Bytes) (count : ℕ) (f f' : Row → (Result Extent Refusal)) → ((r : Row) → Reads (f r) → f' r ≡ f r)
      → Reads (fetched log t s count f) → fetched log' t s count f' ≡ fetched log t s count f
  fetched_again t s count f f' g a =
      let h = held_if log t s count f a in
      rw (h.1, more t s h.0 h.1, h.3) (g h.0 h.2)

  under_again : (page : ℕ) (e : Entry) (offset level : ℕ) (s : Bytes) → Reads (under log page e offset level s)
      → under log' page e offset level s ≡ under log page e offset level s
  unfolding under
  under_again page e offset zero s =
      else_again (same s zero_score) (zero_run page e offset) _ _
      (fetched_again (type_at e 0) s e.dsize (λ (r : Row). leaf_run page e offset (place_of r)) _ (λ r a. refl))
  under_again page e offset (suc d) s =
      else_again (same s zero_score) (zero_run page e offset) _ _
      (fetched_again (2 + suc d) s e.psize _ _
      (λ r. test_again (eqb (length r.bytes % 20) 0) why.Pointers _ _ (under_again page e offset d (pointer r.bytes (pointer_index e offset d)))))

  extent_again : (lent : Bool) (page entry : Bytes) (offset : ℕ) → Reads (extent_at lent log page entry offset)
      → extent_at lent log' page entry offset ≡ extent_at lent log page entry offset
  unfolding extent_at
  extent_again lent page entry offset a =
      test_again lent why.LogLength _ _
      (test_again (page_allowed page) why.Page _ _
      (test_again (entry_readable entry) why.Entry _ _
      (test_again (ltb offset (entry_of entry).size) why.Offset _ _
      (under_again (length page) (entry_of entry) offset (entry_of entry).depth (score_of entry))))) a

  -- what lies at the place of a stored run are the leaf's bytes, in both logs
  bytes_again : (page : Bytes) (e : Entry) (offset : ℕ) (byte : ℕ → Option ℕ) (x : Result Extent Refusal) → offset < e.size
      → Run log (length page) e offset byte x → extent_bytes log' page x ≡ extent_bytes log page x
  bytes_again page e offset byte x o (nothing a b) = ap (extent_bytes log' page) a ∙ sym (ap (extent_bytes log page) a)
  bytes_again page e offset byte x o (block t s r h k m a b) =
      let at = offset % e.dsize in
      let size = length r.bytes in
      let n = min (payload r - at % payload r) (min (size - at) (e.size - offset)) in
      let pos : 0 < n = least_pos (payload r - at % payload r) (size - at) (e.size - offset) (room-left log t s r h at) (omega arith) (omega arith) in
      let le = least-below (payload r - at % payload r) (size - at) (e.size - offset) in
      let fits : at + n ≤ size = omega (arith, le.1) in
      ap (extent_bytes log' page) a
      ∙ stored_bytes log' t s r (more t s r h) at n pos le.0 fits ∙ sym (stored_bytes log t s r h at n pos le.0 fits)
      ∙ sym (ap (extent_bytes log page) a)

  -- the same place, and the same bytes there
  pub both_again : (lent : Bool) (page entry : Bytes) (offset : ℕ) → Reads (extent_at lent log page entry offset)
      → (extent_at lent log' page entry offset ≡ extent_at lent log page entry offset)
      × (extent_bytes log' page (extent_at lent log' page entry offset) ≡ extent_bytes log page (extent_at lent log page entry offset))
  both_again lent page entry offset a =
      let T = through lent log page entry offset a in
      let e = entry_of entry in
      let same_place = extent_again lent page entry offset a in
      let run = under-run log (length page) e offset e.depth (score_of entry) (rw T.goes_down_to a) in (
        same_place,
        ap (extent_bytes log' page) same_place ∙ rw (← T.goes_down_to) (bytes_again page e offset (λ o. byte_under log e o e.depth (score_of entry)) _ T.bounds.inside run),
      )

-- the parts of a log that hold what earlier ones held answer with the same bytes, at the same place of both read as one
pub again : (log waiting log' waiting' page entry : Bytes) (offset : ℕ)
    → lent_allowed (length log') (length waiting') ≡ lent_allowed (length log) (length waiting)
    → ((t : ℕ) (s : Bytes) (r : Row) → held (tape log waiting) t s ≡ some r → held (tape log' waiting') t s ≡ some r)
    → Answers (located log waiting page entry offset)
    → let lent = lent_allowed (length log) (length waiting) in
    (extent_at lent (tape log' waiting') page entry offset ≡ extent_at lent (tape log waiting) page entry offset)
    × (run_bytes log' waiting' page (located log' waiting' page entry offset) ≡ run_bytes log waiting page (located log waiting page entry offset))
again log waiting log' waiting' page entry offset l more a =
    let lent = lent_allowed (length log) (length waiting) in
    let R = both_again (tape log waiting) (tape log' waiting') more lent page entry offset (shown-reads log waiting page entry offset a) in (
      R.0,
      shown-bytes log' waiting' page entry offset
          ∙ ap (λ (b : Bool). extent_bytes (tape log' waiting') page (extent_at b (tape log' waiting') page entry offset)) l
          ∙ R.1 ∙ sym (shown-bytes log waiting page entry offset),
    )
