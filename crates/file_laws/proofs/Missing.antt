-- "A missing block is refused, never zero": reading answers, zeros or stored bytes, only where no block on the path is missing; where one is, it is the refusal of
-- that block.
use mathlib.Core.Path.{◌≡◌, refl, sym, ◌∙◌}
use mathlib.Core.Bool.{Bool, true, false, cond, true≢false}
use mathlib.Core.Logic.{⊎_elim}
use mathlib.Core.Option.{Option, none, some}
use Prim.Native.Nat.{ℕ, zero, suc, ◌+◌, ◌%◌, ◌≤◌}
use native.Mathlib.Omega.{arith}
use lib.Dec.{leb, eqb}
use borrow.Author.Tests.{le-leb, eq-eqb}
use lib.ListN.{length}
use Rattle.bedrock.specs.Choice.{on}
use Rattle.buffer.specs.Bytes.{Bytes, same}
use Rattle.kind.specs.Kind.{zero_score}
use Rattle.refusal.specs.declared.Refusal.{Refusal}
use Rattle.refusal.specs.declared.Refusal.TheVariants as why
use Rattle.block.specs.Block.{Row, place_of}
use Rattle.sector_log.specs.LookUp.{held, absence, lent_allowed}
use Rattle.sector_log.specs.Parts.{tape}
use Rattle.entry.specs.declared.Entry.{Entry}
use Rattle.entry.specs.Entry.{entry_of, score_of}
use Rattle.leaf.specs.declared.Extent.{Extent}
use Rattle.tree.specs.Tree.{pointer, type_at}
use Rattle.leaf.specs.Leaf.{zero_run, leaf_run, fetched, pointer_index, under}
use Rattle.file.specs.File.{test, extent_at}
use Rattle.file.proofs.Tests.{extent_ind, goes_down, shown}
use Rattle.file_laws.specs.Path.{Whole, Lacks, ReadsWhole, MissingIsRefused}
use Rattle.file_laws.proofs.Extents.{Reads, shown-reads}
use Rattle.std.specs.Prelude.{Err, Result}

-- a test that answers was passed
pub tested : (b : Bool) (x : Result Extent Refusal) (w : Refusal) → Reads (test b w x) → b ≡ true
tested true x w a = refl
tested false x w a = absurd a

pub passed : (b : Bool) (x : Result Extent Refusal) (w : Refusal) → Reads (test b w x) → Reads x
passed true x w a = a
passed false x w a = absurd a

-- a score that isn't zero is looked up
pub looked : (b : Bool) (x y : Result Extent Refusal) → b ≡ false → Reads (cond b x y) → Reads y
looked true x y q a = absurd (true≢false q)
looked false x y q a = a

-- a look-up that answers found a block, not longer than the count
pub held_if : (log : Bytes) (t : ℕ) (s : Bytes) (count : ℕ) (f : Row → (Result Extent Refusal)) → Reads (fetched log t s count f)
    → (r : Row) × (held log t s ≡ some r) × Reads (f r) × (leb (length r.bytes) count ≡ true)
held_if log t s count f a = go (held log t s) refl a
  where
    go : (o : Option Row) → held log t s ≡ o → Reads (on o (Err (absence log)) (λ (r : Row). cond (leb (length r.bytes) count) (f r) (Err why.OverCount)))
        → (r : Row) × (held log t s ≡ some r) × Reads (f r) × (leb (length r.bytes) count ≡ true)
    go none q x = absurd x
    go (some r) q x = (r, q, passed (leb (length r.bytes) count) (f r) why.OverCount x, tested (leb (length r.bytes) count) (f r) why.OverCount x)

pub under_whole : (log : Bytes) (page : ℕ) (e : Entry) (offset level : ℕ) (s : Bytes) → Reads (under log page e offset level s) → Whole log e offset level s
unfolding under Whole
under_whole log page e offset zero s a =
    λ z. let h = held_if log (type_at e 0) s e.dsize (λ (r : Row). leaf_run page e offset (place_of r)) (looked (same s zero_score) (zero_run page e offset) _ z a) in
    (h.0, h.1)
under_whole log page e offset (suc d) s a =
    λ z. let f : Row → Result Extent Refusal = λ r. cond (eqb (length r.bytes % 20) 0) (under log page e offset d (pointer r.bytes (pointer_index e offset d))) (Err why.Pointers) in
    let h = held_if log (2 + suc d) s e.psize f (looked (same s zero_score) (zero_run page e offset) _ z a) in
    (h.0, h.1, under_whole log page e offset d _ (passed (eqb (length h.0.bytes % 20) 0) _ why.Pointers h.2))

whole_in : (lent : Bool) (log page b : Bytes) (offset : ℕ) → Reads (extent_at lent log page b offset) → Whole log (entry_of b) offset (entry_of b).depth (score_of b)
whole_in lent log page b offset =
    extent_ind lent log page b offset (λ (x : Result Extent Refusal). Reads x → Whole log (entry_of b) offset (entry_of b).depth (score_of b)) (λ w a. absurd a)
    (under_whole log (length page) (entry_of b) offset (entry_of b).depth (score_of b))

pub read_whole : ReadsWhole
read_whole log waiting page b offset a =
    whole_in (lent_allowed (length log) (length waiting)) (tape log waiting) page b offset (shown-reads log waiting page b offset a)

-- ---- a block that is missing

-- a block that is not held is refused
absent : (log : Bytes) (t : ℕ) (s : Bytes) (count : ℕ) (f : Row → (Result Extent Refusal)) → held log t s ≡ none → fetched log t s count f ≡ Err (absence log)
absent log t s count f e = rw e

-- one that is, and is no longer than the count, is looked into
present : (log : Bytes) (t : ℕ) (s : Bytes) (count : ℕ) (f : Row → (Result Extent Refusal)) (r : Row) → held log t s ≡ some r → length r.bytes ≤ count → fetched log t s count f ≡ f r
present log t s count f r e h = rw (e, le-leb (length r.bytes) count h)

pub under_lacks : (log : Bytes) (page : ℕ) (e : Entry) (offset level : ℕ) (s : Bytes) → Lacks log e offset level s → under log page e offset level s ≡ Err (absence log)
unfolding under Lacks
under_lacks log page e offset zero s l = rw l.0 (absent log (type_at e 0) s e.dsize (λ (r : Row). leaf_run page e offset (place_of r)) l.1)
under_lacks log page e offset (suc d) s l =
    let f : Row → Result Extent Refusal = λ r. cond (eqb (length r.bytes % 20) 0) (under log page e offset d (pointer r.bytes (pointer_index e offset d))) (Err why.Pointers) in
    rw l.0 (⊎_elim (absent log (2 + suc d) s e.psize f)
    (λ p. present log (2 + suc d) s e.psize f p.0 p.1 p.2
    ∙ rw (eq-eqb (length p.0.bytes % 20) 0 p.3) (under_lacks log page e offset d (pointer p.0.bytes (pointer_index e offset d)) p.4))
    l.1)

-- a file of one leaf lacks it
pub leaf_lacks : (log : Bytes) (e : Entry) (offset level : ℕ) (s : Bytes) → level ≡ 0 → same s zero_score ≡ false → held log (type_at e 0) s ≡ none → Lacks log e offset level s
unfolding Lacks
leaf_lacks log e offset zero s z q n = (q, n)
leaf_lacks log e offset (suc d) s z q n = absurd (omega arith)

pub missing-is-refused : MissingIsRefused
missing-is-refused log waiting page b offset a p r h l =
    let lent = lent_allowed (length log) (length waiting) in
    let both = tape log waiting in
    let down = goes_down lent both page b offset true (sym a) refl true (sym p) refl true (sym r) refl (entry_of b) refl h in
    sym (shown log waiting page b offset (Err (absence both)) (sym (under_lacks both (length page) (entry_of b) offset (entry_of b).depth (score_of b) l) ∙ down))
