-- What a hint leads to is sound there, and the scan finds a block of its type and score too.
use mathlib.Core.Path.{◌≡◌, refl, sym, ap, ◌∙◌, subst}
use mathlib.Core.Bool.{Bool, true, false, cond, ◌&&◌, true≢false}
use mathlib.Core.List.Memᴰ
use mathlib.Core.List.{List, [], ◌∷◌, Memᴰ}
use mathlib.Core.Logic.{◌≢◌, ◌⊎◌, inl, inr}
use mathlib.Core.Option.{none, some}
use Prim.Native.Nat.{ℕ, ◌+◌, ◌-◌, ◌≤◌, ◌<◌}
use lib.Dec.{eqb}
use borrow.Author.Tests.{eq-eqb}
use Rattle.bedrock.proofs.Choices.{some-not-none}
use Rattle.buffer.specs.Bytes.{Bytes, same}
use Rattle.buffer.proofs.Bytes.{same_refl}
use Rattle.block.specs.Block.{Row}
use Rattle.block.specs.Log.{sound}
use Rattle.block.proofs.Sound.{sound-reads}
use Rattle.sector_log.specs.LookUp.{blocks, first_of}
use Rattle.sector_log.proofs.Blocks.{blocks_in}
use Rattle.index.specs.Index.{bucket_of, sector_at}
use Rattle.hint.specs.Hint.{true_at, hint}
use Rattle.hint.proofs.Found.{found_at}
use Rattle.hint.proofs.Sound.{true-reads}

pub hint-reads : (log index : Bytes) (t : ℕ) (s : Bytes) (r : Row) → hint log index t s ≡ some r
    → (p : ℕ) × ((bucket_of index s).from ≤ p) × (p < (bucket_of index s).from + ((bucket_of index s).to - (bucket_of index s).from)) × (true_at log index t s p ≡ some r)
unfolding hint
hint-reads log index t s r e = found_at (true_at log index t s) ((bucket_of index s).to - (bucket_of index s).from) (bucket_of index s).from r e

pub hint-sound : (log index : Bytes) (t : ℕ) (s : Bytes) (r : Row) → hint log index t s ≡ some r → (sound log r.first ≡ some r) × (r.kind ≡ t) × (r.score ≡ s)
hint-sound log index t s r e =
    let h = hint-reads log index t s r e in
    let q = true-reads log index t s h.0 r h.3 in
    let here : r.first ≡ sector_at index h.0 = (sound-reads log (sector_at index h.0) r q.1).1 in
    (ap (sound log) here ∙ q.1, q.2, q.3)

-- a row that is there is found by its type and score
first-has : (r : Row) (rows : List Row) → Memᴰ r rows → first_of r.kind r.score rows ≢ none
unfolding first_of
first-has r [] m = absurd (Memᴰ.not-nil m)
first-has r (x ∷ rows) m = go (eqb x.kind r.kind && same x.score r.score) refl (Memᴰ.cases_cons m) (first-has r rows)
  where
    go : (b : Bool) → (eqb x.kind r.kind && same x.score r.score) ≡ b → (r ≡ x) ⊎ Memᴰ r rows
        → (Memᴰ r rows → first_of r.kind r.score rows ≢ none) → cond b (some x) (first_of r.kind r.score rows) ≢ none
    go true q c g = some-not-none x
    go false q (inr m') g = g m'
    go false q (inl e) g =
        let y : (eqb x.kind r.kind && same x.score r.score) ≡ true =
        ap (λ (z : Row). eqb x.kind z.kind && same x.score z.score) e ∙ rw (eq-eqb x.kind x.kind refl, same_refl x.score) in
        absurd (true≢false (sym y ∙ q))

pub first_finds : (log : Bytes) (r : Row) → sound log r.first ≡ some r → first_of r.kind r.score (blocks log) ≢ none
first_finds log r e = first-has r (blocks log) (blocks_in log r e)

-- so a hint never finds what the scan does not
pub hint_finds : (log index : Bytes) (t : ℕ) (s : Bytes) (r : Row) → hint log index t s ≡ some r → first_of t s (blocks log) ≢ none
hint_finds log index t s r e =
    let h = hint-sound log index t s r e in
    subst (λ (x : Bytes). first_of t x (blocks log) ≢ none) h.2 (subst (λ (k : ℕ). first_of k r.score (blocks log) ≢ none) h.1 (first_finds log r h.0))
