-- A block of an entry: refused, or by the part that is below it.
use mathlib.Core.Path.{◌≡◌, refl, sym, ap, ◌∙◌}
use mathlib.Core.Bool.{Bool, true, false, cond}
use Prim.Native.Nat.{ℕ, zero, suc, ◌+◌, ◌-◌, ◌/◌, ◌%◌, ◌≤◌, ◌<◌}
use native.Mathlib.Omega.{arith}
use lib.Dec.{eqb}
use borrow.Author.Tests.{eqb-true, eqb-false}
use lib.ListN.{length}
use Rattle.buffer.specs.Bytes.{Bytes}
use Rattle.refusal.specs.declared.Refusal.{Refusal}
use Rattle.refusal.specs.declared.Refusal.TheVariants.{Pointers}
use Rattle.block.specs.declared.Block.{Block}
use Rattle.block.specs.Log.{bytes_of}
use Rattle.tree.proofs.Pointers.{length-bytes}
use Rattle.entry.specs.declared.Entry.{Entry}
use Rattle.visit.specs.declared.Walked.{Walked}
use Rattle.visit.specs.declared.Met.{Met}
use Rattle.tree.specs.Tree.{piece, pointer, type_at, count_at}
use Rattle.tree.proofs.Pointers.{pointer-piece, length-pointer}
use Rattle.visit.specs.Visit.{walked, more, visiting}
use Rattle.descent.specs.declared.Below.{Below}
use Rattle.descent.specs.declared.Below.TheVariants.{Ends, Entries, Scores}
use Rattle.descent.specs.Descent.{in_order, visit_directory, visit_entry}
use Rattle.visit.specs.Met.{met_of, answer_of}
use Rattle.descent.specs.Parts.{visit_scores, below_of, by_below}
use Rattle.descent.proofs.InOrder.{OfAll, walk_pieces}
use Rattle.visit.proofs.Visits.{Known, found-known, refused-known, spent-within}
use Rattle.std.specs.Prelude.{Ok, Err, Result, ⊤}

-- ---- which part is below a block

-- by its bytes at its place in the log
pub by_part : {A : Type 0} (e : Entry) (level : ℕ) (log : Bytes) (b : Block) → b.label < 499 → {d : Below} → d ≡ below_of e level b.size
    → (ends : Result ⊤ Refusal → A) (entries scores : A)
    → cond (eqb level 0) (cond e.directory entries (ends (Ok tt))) (cond (eqb (length (bytes_of log b) % 20) 0) scores (ends (Err Pointers)))
    ≡ by_below d ends entries scores
unfolding below_of
by_part {A} e level log b short q ends entries scores =
    rw (length-bytes log b short, q) (by_tests_lem (eqb level 0) e.directory (eqb (b.size % 20) 0))
  where
    by_tests_lem : (x y z : Bool)
        → cond x (cond y entries (ends (Ok tt))) (cond z scores (ends (Err Pointers)))
        ≡ by_below (cond x (cond y Entries (Ends (Ok tt))) (cond z Scores (Ends (Err Pointers)))) ends entries scores
    by_tests_lem true true z = refl
    by_tests_lem true false z = refl
    by_tests_lem false y true = refl
    by_tests_lem false y false = refl

-- scores are whole, above the leaves
pub whole-scores : (e : Entry) (level size : ℕ) {d : Below} → d ≡ below_of e level size → d ≡ Scores → (0 < level) × (size % 20 ≡ 0)
unfolding below_of
whole-scores e level size {d} q h = by_tests_lem (eqb level 0) e.directory (eqb (size % 20) 0) refl refl (sym q ∙ h)
  where
    by_tests_lem : (x y z : Bool) → eqb level 0 ≡ x → eqb (size % 20) 0 ≡ z
        → cond x (cond y Entries (Ends (Ok tt))) (cond z Scores (Ends (Err Pointers))) ≡ Scores → (0 < level) × (size % 20 ≡ 0)
    by_tests_lem true true z p r s = let n : ◌≡◌ {A = ℕ} 0 1 = cc in absurd (omega arith)
    by_tests_lem true false z p r s = let n : ◌≡◌ {A = ℕ} 0 1 = cc in absurd (omega arith)
    by_tests_lem false y true p r s = (omega (arith, eqb-false level 0 p), eqb-true (size % 20) 0 r)
    by_tests_lem false y false p r s = let n : ◌≡◌ {A = ℕ} 0 1 = cc in absurd (omega arith)

-- ---- a block of an entry

-- what goes on below it, by its bytes b
abbrev below_block : ℕ → Bytes → Entry → ℕ → ℕ → ℕ → Bytes → Walked
below_block f log e level nest left b =
    cond (eqb level 0)
    (cond e.directory (visit_directory f log nest b (left - 1)) (walked 0 (Ok tt)))
    (cond (eqb (length b % 20) 0) (visit_scores f log e (level - 1) nest b (left - 1)) (walked 0 (Err Pointers)))

-- a visit of an entry is exact, and spends no more than what is left
abbrev pub Visited : Bytes → Entry → ℕ → ℕ → Bytes → ℕ → Walked → Type 0
Visited log e level nest score left r = (r.visits ≤ left) × ((f : ℕ) → left + left + 1 ≤ f → r ≡ visit_entry f log e level nest score left)

-- what was met where a block of an entry is visited
pub record EntryMet (log : Bytes) (e : Entry) (level nest : ℕ) (score : Bytes) (left : ℕ) (m : Met) : Type 0 where
  pub met : m ≡ met_of log nest left (type_at e level) (count_at e level) score

module _ (log : Bytes) (e : Entry) (level nest : ℕ) (score : Bytes) (left : ℕ) where
  visiting-is-entry : (v : Walked) → ((g : ℕ) → left + left ≤ g → v ≡ visiting log nest left (type_at e level) (count_at e level) score (below_block g log e level nest left))
      → (f : ℕ) → left + left + 1 ≤ f → v ≡ visit_entry f log e level nest score left
  unfolding visit_entry
  visiting-is-entry v k zero h = absurd (omega arith)
  visiting-is-entry v k (suc f) h = k f (omega arith)

module _ {log : Bytes} {e : Entry} {level nest : ℕ} {score : Bytes} {left : ℕ} {m : Met} (M : EntryMet log e level nest score left m) where
  pub refused_ends : (why : Refusal) → m.look ≡ Err why → (r : Walked) → r ≡ answer_of m → Visited log e level nest score left r
  refused_ends why d r er = (
    rw er (spent-within log nest left (type_at e level) (count_at e level) score m M.met),
    visiting-is-entry log e level nest score left r
        (λ g h. er ∙ refused-known log nest left (type_at e level) (count_at e level) score m M.met why d (below_block g log e level nest left)),
  )

  module _ {b : Block} (d : m.look ≡ Ok b) where
    pub block-known : Known log nest left (type_at e level) (count_at e level) score b m.spent
    block-known = found-known log nest left (type_at e level) (count_at e level) score m M.met b d

    -- one visit, and what goes on
    goes_on-below : (w : Walked) → w.visits ≤ left - 1 → ((g : ℕ) → left + left ≤ g → w ≡ below_block g log e level nest left (bytes_of log b))
        → Visited log e level nest score left (more w)
    goes_on-below w h k = (
      omega (arith, block-known.some_left),
      visiting-is-entry log e level nest score left (more w) (λ g l. block-known.goes_on (below_block g log e level nest left) w (k g l)),
    )

    part_below : {d : Below} → d ≡ below_of e level b.size → (g : ℕ)
        → below_block g log e level nest left (bytes_of log b)
        ≡ by_below d (walked 0) (visit_directory g log nest (bytes_of log b) (left - 1)) (visit_scores g log e (level - 1) nest (bytes_of log b) (left - 1))
    part_below q g = by_part e level log b block-known.in_log.1 q (walked 0) _ _

    pub ended-below : {d : Below} → d ≡ below_of e level b.size → (x : Result ⊤ Refusal) → d ≡ Ends x → Visited log e level nest score left (walked 1 x)
    ended-below q x h = goes_on-below (walked 0 x) (omega arith) (λ g l. sym (part_below (sym h ∙ q) g))

    pub directory-below : {d : Below} → d ≡ below_of e level b.size → d ≡ Entries → (w : Walked)
        → (w.visits ≤ left - 1) × ((g : ℕ) → (left - 1) + (left - 1) + 2 ≤ g → w ≡ visit_directory g log nest (bytes_of log b) (left - 1))
        → Visited log e level nest score left (more w)
    directory-below q h w k = goes_on-below w k.0 (λ g l. k.1 g (omega (arith, block-known.some_left)) ∙ sym (part_below (sym h ∙ q) g))

    pub scores-below : {d : Below} → d ≡ below_of e level b.size → d ≡ Scores → (w : Walked)
        → (w.visits ≤ left - 1)
        × ((g : ℕ) → (left - 1) + (left - 1) + 1 ≤ g → w ≡ visit_scores g log e (level - 1) nest (bytes_of log b) (left - 1))
        → Visited log e level nest score left (more w)
    scores-below q h w k = goes_on-below w k.0 (λ g l. k.1 g (omega (arith, block-known.some_left)) ∙ sym (part_below (sym h ∙ q) g))

-- ---- the scores of a pointer block, at its place in the log

module _ (log : Bytes) (b : Block) (short : b.label < 499) where
  -- one after the other
  pub scores-one_by_one : (e : Entry) (level nest left : ℕ) (v : Walked)
      → OfAll (walk_pieces (λ f x a. visit_entry f log e level nest x a) 20 (bytes_of log b) left) (b.size / 20) tt v tt
      → (v.visits ≤ left) × ((f : ℕ) → left + left + 1 ≤ f → v ≡ visit_scores f log e level nest (bytes_of log b) left)
  scores-one_by_one e level nest left v k = (
    k.0,
    λ f h. k.1 f h
        ∙ ap (λ (n : ℕ). in_order (λ x a. visit_entry f log e level nest x a) 20 (bytes_of log b) left (n / 20) 0 0) (sym (length-bytes log b short)),
  )

  pub score-of_20 : (i : ℕ) {x : Bytes} → x ≡ pointer (bytes_of log b) i → b.size % 20 ≡ 0 → length x ≡ 20
  score-of_20 i {x} e h = length-pointer (bytes_of log b) i x e (ap (λ (n : ℕ). n % 20) (length-bytes log b short) ∙ h)

  -- score i as it is read is piece i, and what its visit gives is what the piece's gives
  pub score_visited : (e : Entry) (level nest a : ℕ) {i : ℕ} {x : Bytes} {r : Walked} → i < b.size / 20
      → x ≡ pointer (bytes_of log b) i → ((f : ℕ) → a + a + 1 ≤ f → r ≡ visit_entry f log e level nest x a)
      → (f : ℕ) → a + a + 1 ≤ f → r ≡ visit_entry f log e level nest (piece 20 i (bytes_of log b)) a
  score_visited e level nest a {i} h ex v f l =
      v f l
      ∙ ap (λ (y : Bytes). visit_entry f log e level nest y a) (ex ∙ sym (pointer-piece (bytes_of log b) i (omega (arith, length-bytes log b short))))
