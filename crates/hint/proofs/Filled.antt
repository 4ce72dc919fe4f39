-- A bucket that holds the entries of a list of rows, in their order, and free places behind them: what is found there, and what entering does to it.
use mathlib.Core.Path.{◌≡◌, refl, sym, ap, ap₂, ◌∙◌}
use mathlib.Core.Bool.{Bool, true, false, cond, ◌&&◌}
use mathlib.Core.List.{List, [], ◌∷◌, ◌++◌, Memᴰ}
use mathlib.Core.Logic.{◌≢◌, ◌⊎◌, inl, inr}
use mathlib.Core.Option.{Option, none, some}
use Prim.Native.Nat.{ℕ, zero, suc, ◌+◌, ◌-◌, ◌*◌, ◌≤◌, ◌<◌}
use native.Mathlib.Omega.{arith}
use lib.Dec.{eqb, ltb}
use borrow.Author.Tests.{lt-ltb, ltb-true, ltb-false}
use lib.ListN.{length, get_or, length-append, get_or-append}
use Rattle.bedrock.specs.Choice.{on}
use Rattle.bedrock.proofs.Choices.{false_unless}
use Rattle.digits.specs.Number.{be_bytes}
use Rattle.buffer.specs.Bytes.{Bytes, same, zeros}
use Rattle.buffer.proofs.Bytes.{zeros_get_d}
use Rattle.block.specs.Block.{Row, valid}
use Rattle.block.specs.Log.{sound}
use Rattle.block.proofs.Facts.{score-length}
use Rattle.sector_log.specs.LookUp.{first_of}
use Rattle.index.specs.Index.{places, bucket_of, place_at, named, entry_bytes, free, first_free, free_place, has_free}
use Rattle.index.proofs.Places.{length-named}
use Rattle.index.proofs.Buckets.{buckets_apart, free-after}
use Rattle.index.proofs.Entered.{length-entered, entered-place, entered_other, entered-outside}
use Rattle.hint.specs.Hint.{true_at, first_found}
use Rattle.hint.specs.Rebuilt.{entered_row}
use Rattle.hint.proofs.Found.{found_none}
use Rattle.hint.proofs.Sound.{kind-not_0, head_lt, kind-of-named, entry-true, free-true}

-- a fact of every row of a list
abbrev pub Each : (Row → Type 0) → List Row → Type 0
Each P rows = (r : Row) → Memᴰ r rows → P r

abbrev pub Valid : Row → Type 0
Valid r = valid r ≡ true

-- the places from p on hold the entries of the rows
abbrev pub Filled : Bytes → ℕ → List Row → Type 0
Filled index p [] = Unit {0}
Filled index p (r ∷ rows) = (place_at index p ≡ entry_bytes r.score r.kind r.first) × Filled index (suc p) rows

-- ---- entries, and then free places: the first row of a type and score is found

found_first : (b : Bool) (r : Row) (o : Option Row) → on (cond b (some r) none) o some ≡ cond b (some r) o
found_first true r o = refl
found_first false r o = refl

pub filled-first : (log index : Bytes) (t : ℕ) (s : Bytes) (rows : List Row) (p j : ℕ) → Each (λ r. sound log r.first ≡ some r) rows → Filled index p rows
    → ((i : ℕ) → i < j → free index (p + length rows + i) ≡ true) → first_found (true_at log index t s) (length rows + j) p ≡ first_of t s rows
unfolding first_of first_found
filled-first log index t s [] p j all fill rest =
    found_none (true_at log index t s) (0 + j) p
    (λ m a b. let e : p + 0 + (m - p) ≡ m = omega arith in free-true log index t s m (ap (free index) (sym e) ∙ rest (m - p) (omega arith)))
filled-first log index t s (r ∷ rows) p j all fill rest =
    ap (λ (k : ℕ). first_found (true_at log index t s) k p) more
    ∙ step
    ∙ ap (cond (eqb r.kind t && same r.score s) (some r))
    (filled-first log index t s rows (suc p) j (λ x m. all x (Memᴰ.tail m)) fill.1
    (λ i h. let e : suc p + length rows + i ≡ p + suc (length rows) + i = omega arith in ap (free index) e ∙ rest i h))
  where
    more : suc (length rows) + j ≡ suc (length rows + j)
    more = omega arith

    step : first_found (true_at log index t s) (suc (length rows + j)) p
        ≡ cond (eqb r.kind t && same r.score s) (some r) (first_found (true_at log index t s) (length rows + j) (suc p))
    step =
        ap (λ (o : Option Row). on o (first_found (true_at log index t s) (length rows + j) (suc p)) some) (entry-true log index t s p r fill.0 (all r (Memᴰ.head refl)))
        ∙ found_first (eqb r.kind t && same r.score s) r (first_found (true_at log index t s) (length rows + j) (suc p))

-- ---- the places of entries aren't free; entries one more; the same places

entry-taken : (r : Row) → valid r ≡ true → zeros (entry_bytes r.score r.kind r.first) ≡ false
entry-taken r v = false_unless (zeros (entry_bytes r.score r.kind r.first)) (λ q.
    let l : length r.score ≡ 20 = score-length r v in
    let z : get_or (entry_bytes r.score r.kind r.first) 20 0 ≡ 0 = zeros_get_d (entry_bytes r.score r.kind r.first) 20 q in
    let k : get_or (entry_bytes r.score r.kind r.first) 20 0 ≡ r.kind =
    get_or-append (named r.score r.kind) (be_bytes 4 r.first) 0 20 (omega (arith, length-named r.score r.kind l)) ∙ kind-of-named r.score r.kind l in
    kind-not_0 r v (sym k ∙ z))

filled-taken : (index : Bytes) (rows : List Row) (p i : ℕ) → Each Valid rows → Filled index p rows → i < length rows → free index (p + i) ≡ false
filled-taken index [] p i all fill h = absurd (omega arith)
filled-taken index (r ∷ rows) p zero all fill h =
    let e : p + 0 ≡ p = omega arith in
    ap (free index) e ∙ ap zeros fill.0 ∙ entry-taken r (all r (Memᴰ.head refl))
filled-taken index (r ∷ rows) p (suc i) all fill h =
    let e : p + suc i ≡ suc p + i = omega arith in
    ap (free index) e ∙ filled-taken index rows (suc p) i (λ x m. all x (Memᴰ.tail m)) fill.1 (omega arith)

filled-one-more : (index : Bytes) (rows : List Row) (p : ℕ) (r : Row) → Filled index p rows → place_at index (p + length rows) ≡ entry_bytes r.score r.kind r.first
    → Filled index p (rows ++ (r ∷ []))
filled-one-more index [] p r fill e = let z : p + 0 ≡ p = omega arith in (ap (place_at index) (sym z) ∙ e, tt)
filled-one-more index (x ∷ rows) p r fill e =
    let z : suc p + length rows ≡ p + suc (length rows) = omega arith in
    (fill.0, filled-one-more index rows (suc p) r fill.1 (ap (place_at index) z ∙ e))

filled-same : (index after : Bytes) (rows : List Row) (p : ℕ) → ((i : ℕ) → i < length rows → place_at after (p + i) ≡ place_at index (p + i)) → Filled index p rows → Filled after p rows
filled-same index after [] p f fill = tt
filled-same index after (r ∷ rows) p f fill =
    let z : p ≡ p + 0 = omega arith in (
      ap (place_at after) z ∙ f 0 (omega arith) ∙ ap (place_at index) (sym z) ∙ fill.0,
      filled-same index after rows (suc p) (λ i h. let e : suc p + i ≡ p + suc i = omega arith in ap (place_at after) e ∙ f (suc i) (omega arith) ∙ ap (place_at index) (sym e)) fill.1,
    )

-- ---- a bucket of k places

pub record Holds (k : ℕ) (index : Bytes) (b : ℕ) (rows : List Row) : Type 0 where
  pub fits : length rows ≤ k
  pub filled : Filled index (k * b) rows
  pub rest : (i : ℕ) → length rows ≤ i → i < k → free index (k * b + i) ≡ true

-- the same 25 bytes at each of its places
holds_same : (k : ℕ) (index after : Bytes) (b : ℕ) (rows : List Row) → ((i : ℕ) → i < k → place_at after (k * b + i) ≡ place_at index (k * b + i)) → Holds k index b rows → Holds k after b rows
holds_same k index after b rows f H = record {
  fits = H.fits;
  filled = filled-same index after rows (k * b) (λ i h. f i (omega (arith, H.fits))) H.filled;
  rest = λ i a h. ap zeros (f i h) ∙ H.rest i a h;
}

module _ (k : ℕ) (index : Bytes) (K : places (length index) ≡ k) (r : Row) (v : valid r ≡ true) where
  b : ℕ
  b = get_or r.score 0 0

  from_is : (bucket_of index r.score).from ≡ k * get_or r.score 0 0
  unfolding bucket_of
  from_is = ap (λ (n : ℕ). n * get_or r.score 0 0) K

  to_is : (bucket_of index r.score).to ≡ k * get_or r.score 0 0 + k
  unfolding bucket_of
  to_is = ap (λ (n : ℕ). n * get_or r.score 0 0 + n) K

  pub length-row : length (entered_row index r) ≡ length index
  length-row = length-entered index r.score (score-length r v) (head_lt r v) r.kind r.first

  -- the row's own bucket, with room for one more
  pub holds_own : (rows : List Row) → Each Valid rows → Holds k index (get_or r.score 0 0) rows → length rows < k → Holds k (entered_row index r) (get_or r.score 0 0) (rows ++ (r ∷ []))
  unfolding b
  holds_own rows all H h = record {
    fits = omega (arith, more);
    filled = filled-one-more (entered_row index r) rows (k * b) r (filled-same index (entered_row index r) rows (k * b) (λ i l. other i (λ e. absurd (omega (arith, e)))) H.filled)
        (ap (place_at (entered_row index r)) (sym place) ∙ entered-place index r.score (score-length r v) (head_lt r v) r.kind r.first has);
    rest = λ i a l. ap zeros (other i (λ e. absurd (omega (arith, e, more)))) ∙ H.rest i (omega (arith, more)) l;
  }
    where
      more : length (rows ++ (r ∷ [])) ≡ length rows + 1
      more = length-append rows (r ∷ [])

      count : (bucket_of index r.score).to - (bucket_of index r.score).from ≡ k
      count = omega (arith, from_is, to_is)

      place : free_place index r.score ≡ k * b + length rows
      place =
          ap₂ (first_free index) count from_is
          ∙ free-after index (length rows) k (k * b) (λ i l. filled-taken index rows (k * b) i all H.filled l) h (H.rest (length rows) (omega arith) h)

      has : has_free index r.score ≡ true
      has = lt-ltb (free_place index r.score) (bucket_of index r.score).to (omega (arith, place, to_is))

      other : (i : ℕ) → i ≢ length rows → place_at (entered_row index r) (k * b + i) ≡ place_at index (k * b + i)
      other i n = entered_other index r.score (score-length r v) (head_lt r v) r.kind r.first (k * b + i) (λ e. n (omega (arith, e, place)))

  -- any other bucket
  pub holds_other : (c : ℕ) (rows : List Row) → c ≢ get_or r.score 0 0 → Holds k index c rows → Holds k (entered_row index r) c rows
  unfolding b
  holds_other c rows n H = holds_same k index (entered_row index r) c rows
      (λ i h. entered-outside index r.score (score-length r v) (head_lt r v) r.kind r.first (k * c + i) (apart i h (ltb c b) refl)) H
    where
      apart : (i : ℕ) → i < k → (t : Bool) → ltb c b ≡ t → (k * c + i < (bucket_of index r.score).from) ⊎ ((bucket_of index r.score).to ≤ k * c + i)
      apart i h true q = inl (omega (arith, from_is, buckets_apart k c b (ltb-true c b q)))
      apart i h false q = let l : b < c = let g = ltb-false c b q in omega (arith, n) in inr (omega (arith, to_is, buckets_apart k b c l))
