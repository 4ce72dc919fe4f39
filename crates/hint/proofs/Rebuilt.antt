-- A rebuilt index: each bucket holds the entries of its sound blocks, in log order; so it leads to every block.
use mathlib.Core.Path.{◌≡◌, refl, sym, ap, ◌∙◌, subst}
use mathlib.Core.Bool.{Bool, true, false, cond, ◌&&◌, true≢false}
use mathlib.Core.List.Memᴰ
use mathlib.Core.List.{List, [], ◌∷◌, ◌++◌, append-nil, append_assoc, Memᴰ}
use mathlib.Core.Logic.{◌≢◌, ◌⊎◌, inl, inr}
use mathlib.Core.Option.{Option, none, some}
use Prim.Native.Nat.{ℕ, ◌+◌, ◌-◌, ◌*◌, ◌≤◌, ◌<◌}
use native.Mathlib.Omega.{arith}
use lib.Dec.{eqb}
use borrow.Author.Tests.{eqb-true, eqb-false, eq-eqb}
use lib.ListN.{length, get_or, length-append}
use Rattle.bedrock.proofs.Choices.{and-true}
use Rattle.buffer.specs.Bytes.{Bytes, same, zeros}
use Rattle.buffer.proofs.Bytes.{same_true, zeros-replicate}
use Rattle.block.specs.Block.{Row, valid}
use Rattle.block.specs.Log.{sound}
use Rattle.block.proofs.Facts.{score-length}
use Rattle.block.proofs.Sound.{sound-reads}
use Rattle.sector_log.specs.LookUp.{blocks, first_of}
use Rattle.sector_log.proofs.Blocks.{blocks_out}
use Rattle.sector_log.proofs.First.{first-sound}
use Rattle.sector_log.proofs.Appended.{blocks-added}
use Rattle.index.specs.Index.{places, bucket_of, place_at, left_over, cleared}
use Rattle.index.proofs.Buckets.{bucket_whole}
use Rattle.index.proofs.Entered.{left-over-entered, length-cleared, left-over-cleared, cleared-place}
use Rattle.hint.specs.Hint.{true_at, first_found, hint}
use Rattle.hint.specs.Rebuilt.{entered_row, entered_all, rebuilt}
use Rattle.hint.specs.Promises.{of_bucket, RebuiltHits, RebuiltKeeps, RebuiltAppends}
use Rattle.hint.proofs.Sound.{head_lt}
use Rattle.hint.proofs.Leads.{hint_finds}
use Rattle.hint.proofs.Filled.{Each, Valid, filled-first, Holds, length-row, holds_own, holds_other}

-- ---- the rows of a bucket

bucket_in : (b : ℕ) (rows : List Row) (r : Row) → Memᴰ r (of_bucket b rows) → Memᴰ r rows
unfolding of_bucket
bucket_in b [] r m = m
bucket_in b (x ∷ rows) r m = go (eqb (get_or x.score 0 0) b) m (bucket_in b rows r)
  where
    go : (t : Bool) → Memᴰ r (cond t (x ∷ of_bucket b rows) (of_bucket b rows)) → (Memᴰ r (of_bucket b rows) → Memᴰ r rows) → Memᴰ r (x ∷ rows)
    go false h g = Memᴰ.tail (g h)
    go true h g = last (Memᴰ.cases_cons h)
      where
        last : (r ≡ x) ⊎ Memᴰ r (of_bucket b rows) → Memᴰ r (x ∷ rows)
        last (inl e) = Memᴰ.head e
        last (inr h') = Memᴰ.tail (g h')

-- the first of a type and score is the first in its bucket
bucket_first : (t : ℕ) (s : Bytes) (rows : List Row) → first_of t s (of_bucket (get_or s 0 0) rows) ≡ first_of t s rows
unfolding of_bucket first_of
bucket_first t s [] = refl
bucket_first t s (r ∷ rows) = go (eqb (get_or r.score 0 0) (get_or s 0 0)) (eqb r.kind t && same r.score s) refl refl (bucket_first t s rows)
  where
    go : (a y : Bool) → eqb (get_or r.score 0 0) (get_or s 0 0) ≡ a → (eqb r.kind t && same r.score s) ≡ y → first_of t s (of_bucket (get_or s 0 0) rows) ≡ first_of t s rows
        → first_of t s (cond a (r ∷ of_bucket (get_or s 0 0) rows) (of_bucket (get_or s 0 0) rows)) ≡ cond y (some r) (first_of t s rows)
    go true true p q i = rw q
    go true false p q i = rw q i
    go false false p q i = i
    go false true p q i =
        let e : r.score ≡ s = same_true r.score s (and-true (eqb r.kind t) (same r.score s) q).1 in
        absurd (true≢false (sym (eq-eqb (get_or r.score 0 0) (get_or s 0 0) (ap (λ (x : Bytes). get_or x 0 0) e)) ∙ p))

-- ---- rows entered one after the other

-- a row added to its bucket's rows
added : (ℕ → List Row) → Row → ℕ → List Row
added acc r b = acc b ++ cond (eqb (get_or r.score 0 0) b) (r ∷ []) []

added_next : (acc : ℕ → List Row) (r : Row) (rows : List Row) (b : ℕ) → added acc r b ++ of_bucket b rows ≡ acc b ++ of_bucket b (r ∷ rows)
unfolding added of_bucket
added_next acc r rows b = go (eqb (get_or r.score 0 0) b)
  where
    go : (t : Bool) → acc b ++ cond t (r ∷ []) [] ++ of_bucket b rows ≡ acc b ++ cond t (r ∷ of_bucket b rows) (of_bucket b rows)
    go true = append_assoc (acc b) (r ∷ []) (of_bucket b rows)
    go false = ap (λ (l : List Row). l ++ of_bucket b rows) (append-nil (acc b))

added-valid : (acc : ℕ → List Row) (r : Row) (b : ℕ) → valid r ≡ true → Each Valid (acc b) → Each Valid (added acc r b)
unfolding added
added-valid acc r b v f x m = go (eqb (get_or r.score 0 0) b) m
  where
    go : (t : Bool) → Memᴰ x (acc b ++ cond t (r ∷ []) []) → valid x ≡ true
    go true h = last (Memᴰ.append_cases (acc b) h)
      where
        last : Memᴰ x (acc b) ⊎ Memᴰ x (r ∷ []) → valid x ≡ true
        last (inl m') = f x m'
        last (inr m') = ap valid (Memᴰ.eq_of_singleton m') ∙ v
    go false h = f x (subst (Memᴰ x) (append-nil (acc b)) h)

added_holds : (k : ℕ) (index : Bytes) (acc : ℕ → List Row) (r : Row) (rows : List Row) (b : ℕ) → places (length index) ≡ k → valid r ≡ true → Each Valid (acc b)
    → Holds k index b (acc b) → length (acc b ++ of_bucket b (r ∷ rows)) ≤ k → Holds k (entered_row index r) b (added acc r b)
unfolding added of_bucket
added_holds k index acc r rows b K v f H room = go (eqb (get_or r.score 0 0) b) refl room
  where
    go : (t : Bool) → eqb (get_or r.score 0 0) b ≡ t → length (acc b ++ cond t (r ∷ of_bucket b rows) (of_bucket b rows)) ≤ k
        → Holds k (entered_row index r) b (acc b ++ cond t (r ∷ []) [])
    go true q l =
        let e : get_or r.score 0 0 ≡ b = eqb-true (get_or r.score 0 0) b q in
        subst (λ (c : ℕ). Holds k (entered_row index r) c (acc b ++ (r ∷ []))) e
        (holds_own k index K r v (acc b) f (subst (λ (c : ℕ). Holds k index c (acc b)) (sym e) H) (omega (arith, l, length-append (acc b) (r ∷ of_bucket b rows))))
    go false q l =
        subst (Holds k (entered_row index r) b) (sym (append-nil (acc b)))
        (holds_other k index K r v b (acc b) (λ e. eqb-false (get_or r.score 0 0) b q (sym e)) H)

all_hold : (k : ℕ) (rows : List Row) (index : Bytes) (acc : ℕ → List Row) → places (length index) ≡ k → Each Valid rows → ((b : ℕ) → Each Valid (acc b))
    → ((b : ℕ) → b < 256 → Holds k index b (acc b)) → ((b : ℕ) → b < 256 → length (acc b ++ of_bucket b rows) ≤ k)
    → (b : ℕ) → b < 256 → Holds k (entered_all index rows) b (acc b ++ of_bucket b rows)
unfolding entered_all of_bucket
all_hold k [] index acc K all f H room b h = subst (Holds k index b) (sym (append-nil (acc b))) (H b h)
all_hold k (r ∷ rows) index acc K all f H room b h =
    let v : valid r ≡ true = all r (Memᴰ.head refl) in
    subst (Holds k (entered_all (entered_row index r) rows) b) (added_next acc r rows b)
    (all_hold k rows (entered_row index r) (added acc r) (ap places (length-row k index K r v) ∙ K) (λ x m. all x (Memᴰ.tail m))
    (λ c. added-valid acc r c v (f c))
    (λ c l. added_holds k index acc r rows c K v (f c) (H c l) (room c l))
    (λ c l. let e = ap length (added_next acc r rows c) in omega (arith, e, room c l)) b h)

-- ---- the rebuilt index

module _ (log index : Bytes) where
  pub all_valid : Each Valid (blocks log)
  all_valid r m = (sound-reads log r.first r (blocks_out log r m)).0

  cleared_holds : (b : ℕ) → b < 256 → Holds (places (length index)) (cleared index) b []
  cleared_holds b h = record {
    fits = omega arith;
    filled = tt;
    rest = λ i a l. ap zeros (cleared-place index (places (length index) * b + i) (omega (arith, bucket_whole (length index) b h))) ∙ zeros-replicate 25;
  }

  rebuilt_holds : ((b : ℕ) → b < 256 → length (of_bucket b (blocks log)) ≤ places (length index)) → (b : ℕ) → b < 256
      → Holds (places (length index)) (rebuilt log index) b (of_bucket b (blocks log))
  unfolding rebuilt
  rebuilt_holds room b h =
      all_hold (places (length index)) (blocks log) (cleared index) (λ _. []) (ap places (length-cleared index)) all_valid (λ c x m. absurd (Memᴰ.not-nil m)) cleared_holds room b h

-- one list of rows and then another
all_append : (index : Bytes) (rows more : List Row) → entered_all index (rows ++ more) ≡ entered_all (entered_all index rows) more
unfolding entered_all
all_append index [] more = refl
all_append index (r ∷ rows) more = all_append (entered_row index r) rows more

pub rebuilt_appends : RebuiltAppends
unfolding rebuilt entered_all
rebuilt_appends log index r a = ap (entered_all (cleared index)) (blocks-added log r a.0 a.1 a.2) ∙ all_append (cleared index) (blocks log) (r ∷ [])

-- length and bytes left over
all_keep : (rows : List Row) (index : Bytes) → Each Valid rows → (length (entered_all index rows) ≡ length index) × (left_over (entered_all index rows) ≡ left_over index)
unfolding entered_all
all_keep [] index all = (refl, refl)
all_keep (r ∷ rows) index all =
    let v : valid r ≡ true = all r (Memᴰ.head refl) in
    let p = all_keep rows (entered_row index r) (λ x m. all x (Memᴰ.tail m)) in
    (p.0 ∙ length-row (places (length index)) index refl r v, p.1 ∙ left-over-entered index r.score (score-length r v) (head_lt r v) r.kind r.first)

pub rebuilt-keeps : RebuiltKeeps
unfolding rebuilt
rebuilt-keeps log index = let p = all_keep (blocks log) (cleared index) (all_valid log index) in (p.0 ∙ length-cleared index, p.1 ∙ left-over-cleared index)

-- what is found in a bucket that holds rows of the log
hint_in : (log index : Bytes) (t : ℕ) (s : Bytes) (rows : List Row) → Each (λ r. sound log r.first ≡ some r) rows → Holds (places (length index)) index (get_or s 0 0) rows
    → hint log index t s ≡ first_of t s rows
unfolding hint bucket_of
hint_in log index t s rows all H =
    let k = places (length index) in
    let p = k * get_or s 0 0 in
    let n : p + k - p ≡ length rows + (k - length rows) = omega (arith, H.fits) in
    ap (λ (m : ℕ). first_found (true_at log index t s) m p) n
    ∙ filled-first log index t s rows p (k - length rows) all H.filled
    (λ i h. let e : p + length rows + i ≡ p + (length rows + i) = omega arith in ap (λ (m : ℕ). zeros (place_at index m)) e ∙ H.rest (length rows + i) (omega arith) (omega (arith, H.fits)))

pub rebuilt_hits : RebuiltHits
rebuilt_hits log index room t s = go (first_of t s (blocks log)) (hint log (rebuilt log index) t s) refl refl
  where
    go : (o h : Option Row) → first_of t s (blocks log) ≡ o → hint log (rebuilt log index) t s ≡ h → hint log (rebuilt log index) t s ≡ first_of t s (blocks log)
    go none none p q = q ∙ sym p
    go none (some r) p q = absurd (hint_finds log (rebuilt log index) t s r q p)
    go (some x) h p q =
        let f = first-sound log t s x p in
        let v = (sound-reads log x.first x f.0).0 in
        let lt : get_or s 0 0 < 256 = subst (λ (z : Bytes). get_or z 0 0 < 256) f.2 (head_lt x v) in
        let e : places (length index) ≡ places (length (rebuilt log index)) = ap places (sym (rebuilt-keeps log index).0) in
        hint_in log (rebuilt log index) t s (of_bucket (get_or s 0 0) (blocks log)) (λ r m. blocks_out log r (bucket_in (get_or s 0 0) (blocks log) r m))
        (subst (λ (k : ℕ). Holds k (rebuilt log index) (get_or s 0 0) (of_bucket (get_or s 0 0) (blocks log))) e (rebuilt_holds log index room (get_or s 0 0) lt))
        ∙ bucket_first t s (blocks log)
