-- Two entries by the program's steps, one position of two blocks, and all of them.
use mathlib.Core.Path.{◌≡◌, sym, ap, ap₂, ◌∙◌}
use Prim.Native.Nat.{ℕ, ◌+◌, ◌-◌, ◌*◌, ◌≤◌, ◌<◌, max}
use native.Mathlib.Omega.{arith}
use lib.ListN.{length, take, drop, length-take, length-drop}
use lib.Seq.{take_all}
use borrow.Author.Tests.{eq-eqb, ne_eqb}
use Rattle.buffer.specs.Bytes.{Bytes}
use Rattle.sector.specs.Sector.{filled}
use Rattle.sector.proofs.Encode.{length-filled}
use Rattle.block.specs.declared.Block.{Block}
use Rattle.block.specs.Log.{bytes_of}
use Rattle.reader.proofs.Pieces.{length-bytes}
use Rattle.entry.specs.declared.Entry.{Entry}
use Rattle.entry.specs.Entry.{entry_of, score_of}
use Rattle.tree.specs.Tree.{pointer}
use Rattle.verdict.specs.declared.Verdict.{Verdict}
use Rattle.verdict.specs.declared.Verdict.TheVariants.{Open}
use Rattle.verdict.specs.Verdict.{verdict}
use Rattle.comparison.specs.declared.Compared.{Compared}
use Rattle.comparison.specs.Compared.{in_order}
use Rattle.comparison.specs.Compare.{positions, by_verdict, compare_blocks, compare_entries, most_leaf, compare_position, compare_below}
use Rattle.comparison.proofs.Bounds.{open_leaf}
use Rattle.open_pair.specs.Lies.{Lies}
use Rattle.compare_below.proofs.InOrder.{OfAll}

pub score-of_20 : (x : Bytes) → length x ≡ 40 → length (take (40 - 20) (drop 20 x)) ≡ 20
score-of_20 x h = simp (length-take, length-drop) (omega arith)

pub by_verdict_lem : (f : ℕ) (log : Bytes) (nest : ℕ) (x y : Bytes) (left : ℕ) {v : Verdict} → verdict x y ≡ v
    → by_verdict v (compare_blocks f log (entry_of x) (entry_of x).depth (nest + 1) (score_of x) (score_of y) left) ≡ compare_entries f log nest x y left
by_verdict_lem f log nest x y left q =
    ap (λ (v : Verdict). by_verdict v (compare_blocks f log (entry_of x) (entry_of x).depth (nest + 1) (score_of x) (score_of y) left)) (sym q)

-- the first of two entries that are opened, as it is read
pub record EntryRead (x y : Bytes) (e : Entry) : Type 0 where
  pub opens : verdict x y ≡ Open
  pub read : e ≡ entry_of x
  pub depth-at-most_7 : e.depth ≤ 7
  pub leaves : e.dsize ≤ most_leaf

depth-of : (x : Bytes) → (entry_of x).depth ≤ 7
unfolding entry_of
depth-of x = omega arith

pub entry_read : (x y : Bytes) {e : Entry} → length x ≡ 40 → length y ≡ 40 → verdict x y ≡ Open → e ≡ entry_of (take 40 (drop 0 x)) → EntryRead x y e
entry_read x y {e} lx ly q h =
    let r : e ≡ entry_of x = h ∙ ap entry_of (take_all 40 x (omega arith)) in
    record {
      opens = q;
      read = r;
      depth-at-most_7 = omega (arith, ap (λ (d : Entry). d.depth) r, depth-of x);
      leaves = omega (arith, ap (λ (d : Entry). d.dsize) r, open_leaf x y q);
    }

pub by_blocks : {x y : Bytes} {e : Entry} → EntryRead x y e → (f : ℕ) (log : Bytes) (nest left : ℕ)
    → compare_blocks f log e e.depth (nest + 1) (score_of x) (score_of y) left ≡ compare_entries f log nest x y left
by_blocks {x} {y} {e} R f log nest left =
    ap (λ (d : Entry). compare_blocks f log d d.depth (nest + 1) (score_of x) (score_of y) left) R.read ∙ by_verdict_lem f log nest x y left R.opens

-- ---- one position

pub listed-of_40 : (d : Bytes) {x : Bytes} → x ≡ filled 40 d → length x ≡ 40
listed-of_40 d e = ap length e ∙ length-filled 40 d

module _ (f : ℕ) (log : Bytes) (e : Entry) (level nest : ℕ) (b c : Bytes) (i left : ℕ) where
  pub in_leaves : level ≡ 0 → {x y : Bytes} → x ≡ filled 40 (drop (40 * i) b) → y ≡ filled 40 (drop (40 * i) c)
      → compare_entries f log nest x y left ≡ compare_position f log e level nest b c i left
  in_leaves z ex ey = ap₂ (λ (x y : Bytes). compare_entries f log nest x y left) ex ey ∙ rw (eq-eqb level 0 z)

  pub above_leaves : (level ≡ 0 → ⊥) → {s t : Bytes} → s ≡ pointer b i → t ≡ pointer c i
      → compare_blocks f log e (level - 1) nest s t left ≡ compare_position f log e level nest b c i left
  above_leaves z es et = ap₂ (λ (s t : Bytes). compare_blocks f log e (level - 1) nest s t left) es et ∙ rw (ne_eqb level 0 z)

-- all positions of two blocks in the log
pub of-below : (log : Bytes) (e : Entry) (level nest : ℕ) (b c : Block) (end : ℕ) → Lies level b end → Lies level c end → (left : ℕ) {most : ℕ}
    → most ≡ max (positions level b.size) (positions level c.size) → (v : Compared)
    → OfAll (λ f i a. compare_position f log e level nest (bytes_of log b) (bytes_of log c) i a) left most v
    → (f : ℕ) → left < f → v ≡ compare_below f log e level nest (bytes_of log b) (bytes_of log c) left
of-below log e level nest b c end B C left {most} em v k f h =
    k f h
    ∙ ap (λ (x : ℕ). in_order (λ i a. compare_position f log e level nest (bytes_of log b) (bytes_of log c) i a) left x 0 0 0)
    (em ∙ ap₂ (λ (x y : ℕ). max (positions level x) (positions level y)) (sym (length-bytes log b B.before.1)) (sym (length-bytes log c C.before.1)))
