-- What entering and clearing leave of a buffer.
use mathlib.Core.Path.{◌≡◌, refl, sym, ap, ◌∙◌}
use mathlib.Core.Bool.{Bool, true, false, true≢false}
use mathlib.Core.List.{◌++◌}
use mathlib.Core.Logic.{◌≢◌, ◌⊎◌, inl, inr}
use Prim.Native.Nat.{ℕ, zero, suc, ◌+◌, ◌-◌, ◌*◌, ◌≤◌, ◌<◌}
use native.Mathlib.Nat.{sub-zero, zero-sub}
use native.Mathlib.Omega.{arith}
use borrow.Author.Tests.{ltb-true}
use lib.ListN.{length, get_or, take, drop, replicate, length-append, length-drop, length-replicate, replicate-append-replicate}
use lib.Seq.{take_at, drop_at, drop-append-le, take-append-le}
use Rattle.bedrock.proofs.Choices.{cond_ind}
use Rattle.buffer.specs.Bytes.{Bytes, put}
use Rattle.buffer.proofs.Put.{length-put}
use Rattle.index.specs.Index.{places, bucket_of, place_at, entry_bytes, free, free_place, has_free, entered, left_over, cleared}
use Rattle.index.specs.Promises.{EnteredKeeps, EnteredThere, ClearedKeeps}
use Rattle.index.proofs.Places.{length-entry, drop-behind, put-place, put_other}
use Rattle.index.proofs.Buckets.{in_bucket, free-range, free-found}

abbrev blanks : ℕ → Bytes
blanks n = replicate n 0

length-blanks : (n : ℕ) → length (blanks n) ≡ n
length-blanks n = length-replicate n 0

drop-zeros : (m n : ℕ) → drop m (blanks n) ≡ blanks (n - m)
drop-zeros zero n = ap blanks (sym (sub-zero n))
drop-zeros (suc m) zero = ap blanks (sym (zero-sub (suc m)))
drop-zeros (suc m) (suc n) = let e : suc n - suc m ≡ n - m = omega arith in drop-zeros m n ∙ ap blanks (sym e)

module _ (index score : Bytes) (l : length score ≡ 20) (b : get_or score 0 0 < 256) where
  -- the place that is taken, if one is free
  module _ (t : has_free index score ≡ true) where
    before-end : free_place index score < (bucket_of index score).to
    before-end = ltb-true (free_place index score) (bucket_of index score).to t

    pub taken-fits : 25 * free_place index score + 25 ≤ length index
    taken-fits = omega (arith, before-end, (in_bucket index score b).1)

    pub taken_free : free index (free_place index score) ≡ true
    taken_free =
        let r = bucket_of index score in
        free-found index (r.to - r.from) r.from (omega (arith, before-end, (in_bucket index score b).0))

  module _ (kind first : ℕ) where
    entry_length_lem : length (entry_bytes score kind first) ≡ 25
    entry_length_lem = length-entry score kind first l

    pub length-entered : length (entered index score kind first) ≡ length index
    unfolding entered
    length-entered =
        cond_ind (λ (x : Bytes). length x ≡ length index) (has_free index score) (put index (25 * free_place index score) (entry_bytes score kind first)) index
        (λ t. length-put index (25 * free_place index score) (entry_bytes score kind first) (omega (arith, entry_length_lem, taken-fits t)))
        (λ _. refl)

    -- behind the buckets, and at every place but the one that is taken
    behind : drop (6400 * places (length index)) (entered index score kind first) ≡ drop (6400 * places (length index)) index
    unfolding entered
    behind =
        let n = 6400 * places (length index) in
        cond_ind (λ (x : Bytes). drop n x ≡ drop n index) (has_free index score) (put index (25 * free_place index score) (entry_bytes score kind first)) index
        (λ t. drop-behind index (entry_bytes score kind first) (free_place index score) entry_length_lem (taken-fits t) n (omega (arith, before-end t, (in_bucket index score b).2)))
        (λ _. refl)

    pub left-over-entered : left_over (entered index score kind first) ≡ left_over index
    left-over-entered = ap (λ (m : ℕ). drop (6400 * places m) (entered index score kind first)) length-entered ∙ behind

    pub entered_other : (q : ℕ) → q ≢ free_place index score → place_at (entered index score kind first) q ≡ place_at index q
    unfolding entered
    entered_other q n =
        cond_ind (λ (x : Bytes). place_at x q ≡ place_at index q) (has_free index score) (put index (25 * free_place index score) (entry_bytes score kind first)) index
        (λ t. put_other index (entry_bytes score kind first) (free_place index score) entry_length_lem (taken-fits t) q n)
        (λ _. refl)

    pub entered-full : has_free index score ≡ false → entered index score kind first ≡ index
    unfolding entered
    entered-full t = rw t

    pub entered-place : has_free index score ≡ true → place_at (entered index score kind first) (free_place index score) ≡ entry_bytes score kind first
    unfolding entered
    entered-place t = rw t (put-place index (entry_bytes score kind first) (free_place index score) entry_length_lem (taken-fits t))

    -- places outside the bucket stay
    pub entered-outside : (q : ℕ) → (q < (bucket_of index score).from) ⊎ ((bucket_of index score).to ≤ q) → place_at (entered index score kind first) q ≡ place_at index q
    entered-outside q o = go (has_free index score) refl o
      where
        go : (t : Bool) → has_free index score ≡ t → (q < (bucket_of index score).from) ⊎ ((bucket_of index score).to ≤ q) → place_at (entered index score kind first) q ≡ place_at index q
        go false e _ = ap (λ (x : Bytes). place_at x q) (entered-full e)
        go true e (inl h) =
            let r = bucket_of index score in
            entered_other q (λ z. absurd (omega (arith, z, (free-range index (r.to - r.from) r.from).0)))
        go true e (inr h) = entered_other q (λ z. absurd (omega (arith, z, before-end e)))

    -- a place that isn't free stays
    pub entered-stays : (q : ℕ) → free index q ≡ false → place_at (entered index score kind first) q ≡ place_at index q
    entered-stays q f = go (has_free index score) refl
      where
        go : (t : Bool) → has_free index score ≡ t → place_at (entered index score kind first) q ≡ place_at index q
        go false e = ap (λ (x : Bytes). place_at x q) (entered-full e)
        go true e = entered_other q (λ z. true≢false (sym (taken_free e) ∙ ap (free index) (sym z) ∙ f))

pub entered-keeps : EnteredKeeps
entered-keeps index score kind first l b =
    (length-entered index score l b kind first, left-over-entered index score l b kind first, entered_other index score l b kind first, entered-stays index score l b kind first)

pub entered-there : EnteredThere
entered-there index score kind first l b = (entered-place index score l b kind first, entered-full index score l b kind first)

-- clearing

-- w bytes out of n zeros
blank_part_lem : (w n o : ℕ) (rest : Bytes) → o + w ≤ n → take w (drop o (blanks n ++ rest)) ≡ blanks w
blank_part_lem w n o rest h =
    let k : n - o ≡ w + (n - o - w) = omega arith in
    let d : drop o (blanks n) ≡ blanks (n - o) = drop-zeros o n in
    ap (take w) (drop-append-le o (blanks n) rest (omega (arith, length-blanks n)))
    ∙ take-append-le w (drop o (blanks n)) rest (omega (arith, ap length d, length-blanks (n - o)))
    ∙ ap (take w) (d ∙ ap blanks k ∙ sym (replicate-append-replicate w (n - o - w) 0))
    ∙ take_at (blanks w) (blanks (n - o - w)) w (length-blanks w)

module _ (index : Bytes) where
  n : ℕ
  n = 6400 * places (length index)

  pub length-cleared : length (cleared index) ≡ length index
  unfolding cleared n
  length-cleared = omega (arith, length-append (blanks n) (drop n index), length-blanks n, length-drop n index)

  pub left-over-cleared : left_over (cleared index) ≡ left_over index
  unfolding cleared n
  left-over-cleared = ap (λ (m : ℕ). drop (6400 * places m) (cleared index)) length-cleared ∙ drop_at (blanks n) (drop n index) n (length-blanks n)

  pub cleared-place : (q : ℕ) → q < 256 * places (length index) → place_at (cleared index) q ≡ blanks 25
  unfolding cleared place_at n
  cleared-place q h = blank_part_lem 25 n (25 * q) (drop n index) (omega arith)

pub cleared-keeps : ClearedKeeps
cleared-keeps index = (length-cleared index, left-over-cleared index, cleared-place index)
