-- The first entry of a bucket that names a type and score: what the code's turns say of it, and that the index leads to the sound block that it tells.
use mathlib.Core.Path.{◌≡◌, refl, sym, ap, ◌∙◌}
use mathlib.Core.Bool.{Bool, true, false, cond, true≢false}
use mathlib.Core.Option.{Option, none, some}
use Prim.Native.Nat.{ℕ, zero, suc, ◌+◌, ◌-◌, ◌≤◌, ◌<◌}
use native.Mathlib.Omega.{arith}
use native.Mathlib.Numerals.{add-one}
use lib.Dec.{eqb}
use lib.ListN.{take}
use borrow.Author.Tests.{eqb-true, eq-eqb}
use Rattle.bedrock.specs.Choice.{on}
use Rattle.buffer.specs.Bytes.{Bytes, same}
use Rattle.block.specs.Block.{Row}
use Rattle.index.specs.Index.{place_at, named, sector_at, bucket_of}
use Rattle.index.specs.declared.Bucket.{Bucket}
use Rattle.hint.specs.Hint.{sound_with, true_at, first_found, hint}
use Rattle.hint.specs.Tells.{tells_from, tells}

-- ---- the index leads there

module _ (log index : Bytes) (t : ℕ) (s : Bytes) (n : ℕ) (r : Row) (there : sound_with log n t s ≡ some r) where
  true-from : (k p : ℕ) → tells_from index t s n k p ≡ true → first_found (true_at log index t s) k p ≡ some r
  unfolding tells_from first_found true_at
  true-from zero p h = let z : ◌≡◌ {A = ℕ} 0 1 = cc in absurd (omega arith)
  true-from (suc k) p h = go (true-from k (suc p)) (same (take 21 (place_at index p)) (named s t)) h
    where
      go : (tells_from index t s n k (suc p) ≡ true → first_found (true_at log index t s) k (suc p) ≡ some r)
          → (b : Bool) → cond b (eqb (sector_at index p) n) (tells_from index t s n k (suc p)) ≡ true
          → on (cond b (sound_with log (sector_at index p) t s) none) (first_found (true_at log index t s) k (suc p)) some ≡ some r
      go rest true q =
          let e : sound_with log (sector_at index p) t s ≡ some r = ap (λ (m : ℕ). sound_with log m t s) (eqb-true (sector_at index p) n q) ∙ there in
          ap (λ (o : Option Row). on o (first_found (true_at log index t s) k (suc p)) some) e
      go rest false q = rest q

  -- the entry's block is the hint's
  pub hint-told : tells index t s n ≡ true → hint log index t s ≡ some r
  unfolding tells hint
  hint-told h = true-from ((bucket_of index s).to - (bucket_of index s).from) (bucket_of index s).from h

-- ---- no entry names them, so the index leads nowhere

module _ (log index : Bytes) (t : ℕ) (s : Bytes) where
  none_from : (k p : ℕ) → ((n : ℕ) → tells_from index t s n k p ≡ false) → first_found (true_at log index t s) k p ≡ none
  unfolding tells_from first_found true_at
  none_from zero p h = refl
  none_from (suc k) p h = go (none_from k (suc p)) (same (take 21 (place_at index p)) (named s t)) h
    where
      go : (((n : ℕ) → tells_from index t s n k (suc p) ≡ false) → first_found (true_at log index t s) k (suc p) ≡ none)
          → (b : Bool) → ((n : ℕ) → cond b (eqb (sector_at index p) n) (tells_from index t s n k (suc p)) ≡ false)
          → on (cond b (sound_with log (sector_at index p) t s) none) (first_found (true_at log index t s) k (suc p)) some ≡ none
      go rest true q = absurd (true≢false (sym (eq-eqb (sector_at index p) (sector_at index p) refl) ∙ q (sector_at index p)))
      go rest false q = rest q

  pub hint_untold : ((n : ℕ) → tells index t s n ≡ false) → hint log index t s ≡ none
  unfolding tells hint
  hint_untold h = none_from ((bucket_of index s).to - (bucket_of index s).from) (bucket_of index s).from h

-- ---- the turns

module _ (index : Bytes) (t : ℕ) (s : Bytes) (n : ℕ) where
  pub tell-starts : (b : Bucket) → b ≡ bucket_of index s → tells_from index t s n (b.to - b.from) b.from ≡ tells index t s n
  unfolding tells
  tell-starts b e = ap (λ (x : Bucket). tells_from index t s n (x.to - x.from) x.from) e

  module _ (p to : ℕ) (h : p < to) (all : tells_from index t s n (to - p) p ≡ tells index t s n) (a : Bool) (e : a ≡ same (take 21 (place_at index p)) (named s t)) where
    one_turn : cond a (eqb (sector_at index p) n) (tells_from index t s n (to - (p + 1)) (p + 1)) ≡ tells index t s n
    unfolding tells_from
    one_turn =
        ap (λ (b : Bool). cond b (eqb (sector_at index p) n) (tells_from index t s n (to - (p + 1)) (p + 1))) e
        ∙ ap (λ (q : ℕ). cond (same (take 21 (place_at index p)) (named s t)) (eqb (sector_at index p) n) (tells_from index t s n (to - (p + 1)) q)) (add-one p)
        ∙ ap (λ (k : ℕ). tells_from index t s n k p) (sym more) ∙ all
      where
        more : to - p ≡ suc (to - (p + 1))
        more = omega arith

    pub tell-here : (m : ℕ) → a ≡ true → m ≡ sector_at index p → eqb m n ≡ tells index t s n
    tell-here m q f = ap (λ (x : ℕ). eqb x n) f ∙ sym (ap (λ (b : Bool). cond b (eqb (sector_at index p) n) (tells_from index t s n (to - (p + 1)) (p + 1))) q) ∙ one_turn

    pub tell-next : a ≡ false → tells_from index t s n (to - (p + 1)) (p + 1) ≡ tells index t s n
    tell-next q = sym (ap (λ (b : Bool). cond b (eqb (sector_at index p) n) (tells_from index t s n (to - (p + 1)) (p + 1))) q) ∙ one_turn

  pub tell_ends : (p to : ℕ) → to ≤ p → tells_from index t s n (to - p) p ≡ tells index t s n → false ≡ tells index t s n
  unfolding tells_from
  tell_ends p to h e = let z : to - p ≡ 0 = omega arith in sym (ap (λ (k : ℕ). tells_from index t s n k p) z) ∙ e
