-- A walk from its root: the tests, the root, and its directory block.
use mathlib.Core.Path.{◌≡◌, sym, ap, ◌∙◌}
use mathlib.Core.Bool.{Bool, true, false, cond}
use Prim.Native.Nat.{ℕ, ◌+◌, ◌-◌, ◌≤◌, ◌<◌}
use native.Mathlib.Omega.{arith}
use borrow.Author.Tests.{lt-ltb, le-ltb}
use lib.ListN.{take, drop}
use Rattle.buffer.specs.Bytes.{Bytes}
use Rattle.refusal.specs.declared.Refusal.{Refusal}
use Rattle.refusal.specs.declared.Refusal.TheVariants.{LogLength, Entry as IllFormed, Allowance}
use Rattle.kind.specs.Kind.{longest}
use Rattle.sector.specs.Sector.{filled}
use Rattle.block.specs.declared.Block.{Block}
use Rattle.block.specs.Log.{bytes_of}
use Rattle.reader.proofs.Pieces.{length-bytes}
use Rattle.entry.specs.Root.{root_well_formed, root_score}
use Rattle.visit.specs.declared.Walked.{Walked}
use Rattle.visit.specs.declared.Met.{Met}
use Rattle.visit.specs.Visit.{walked, more}
use Rattle.descent.specs.Descent.{padded_to, visit_directory}
use Rattle.walk.specs.Walk.{walk_top, walk_root, walk_in, most_allowance}
use Rattle.visit.specs.Met.{met_of, answer_of}
use Rattle.descent.proofs.Padded.{root-padded}
use Rattle.visit.proofs.Visits.{Known, refused-known, spent-within}
use Rattle.std.specs.Prelude.{Err}

-- ---- the directory block of a root

pub top-refused : (log score : Bytes) (left : ℕ) {m : Met} → m ≡ met_of log 1 left 2 longest score → {why : Refusal} → m.look ≡ Err why → {r : Walked} → r ≡ answer_of m
    → (r.visits ≤ left) × (r ≡ walk_top log score left)
unfolding walk_top
top-refused log score left {m} e {why} d a =
    (rw a (spent-within log 1 left 2 longest score m e), a ∙ refused-known log 1 left 2 longest score m e why d _)

pub top-found : {log score : Bytes} {left : ℕ} {b : Block} {spent : ℕ} → Known log 1 left 2 longest score b spent → (w : Walked)
    → (w.visits ≤ left - 1) × ((g : ℕ) → (left - 1) + (left - 1) + 2 ≤ g → w ≡ visit_directory g log 1 (bytes_of log b) (left - 1))
    → ((more w).visits ≤ left) × (more w ≡ walk_top log score left)
unfolding walk_top
top-found {log} {score} {left} K w k = (omega (arith, K.some_left, k.0), K.goes_on _ w (k.1 _ (omega arith)))

-- ---- the root

-- what goes on below it
abbrev below_root_lem : Bytes → ℕ → Bytes → Walked
below_root_lem log left b = cond (root_well_formed (padded_to 300 b)) (walk_top log (root_score (padded_to 300 b)) (left - 1)) (walked 0 (Err IllFormed))

pub root-refused : (log score : Bytes) (left : ℕ) {m : Met} → m ≡ met_of log 0 left 1 300 score → {why : Refusal} → m.look ≡ Err why → {r : Walked} → r ≡ answer_of m
    → r ≡ walk_root log score left
unfolding walk_root
root-refused log score left {m} e {why} d a = a ∙ refused-known log 0 left 1 300 score m e why d (below_root_lem log left)

module _ {log score : Bytes} {left : ℕ} {b : Block} {spent : ℕ} (K : Known log 0 left 1 300 score b spent) {x : Bytes}
    (ex : x ≡ filled 300 (drop 0 (bytes_of log b))) {f : Bool} (ef : f ≡ root_well_formed x) where
  root_as_read : x ≡ padded_to 300 (bytes_of log b)
  root_as_read = ex ∙ sym (root-padded (bytes_of log b) (omega (arith, length-bytes log b K.in_log.1, K.counted_in)))

  well_formed_as_read : root_well_formed (padded_to 300 (bytes_of log b)) ≡ f
  well_formed_as_read = ap root_well_formed (sym root_as_read) ∙ sym ef

  pub ill-formed-root : f ≡ false → walked 1 (Err IllFormed) ≡ walk_root log score left
  unfolding walk_root
  ill-formed-root z = K.goes_on (below_root_lem log left) (walked 0 (Err IllFormed)) (rw (well_formed_as_read, z))

  pub root-found : f ≡ true → (w : Walked) → w ≡ walk_top log (take 20 (drop 258 x)) (left - 1) → more w ≡ walk_root log score left
  unfolding walk_root
  root-found z w ew =
      K.goes_on (below_root_lem log left) w (rw (well_formed_as_read, z) (ew ∙ ap (λ (y : Bytes). walk_top log (root_score y) (left - 1)) root_as_read))

-- ---- the tests of a walk

module _ (lent : Bool) (log score : Bytes) (allowance : ℕ) (a : Bool) (e : a ≡ lent) where
  pub log-not-allowed : a ≡ false → walked 0 (Err LogLength) ≡ walk_in lent log score allowance
  unfolding walk_in
  log-not-allowed q = rw (sym e ∙ q)

  pub allowance_too_large : a ≡ true → most_allowance < allowance → walked 0 (Err Allowance) ≡ walk_in lent log score allowance
  unfolding walk_in
  allowance_too_large q h = rw (sym e ∙ q, lt-ltb most_allowance allowance h)

  pub tests_passed : a ≡ true → allowance ≤ most_allowance → (r : Walked) → r ≡ walk_root log score allowance → r ≡ walk_in lent log score allowance
  unfolding walk_in
  tests_passed q h r d = rw (sym e ∙ q, le-ltb most_allowance allowance h) d
