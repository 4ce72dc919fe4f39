-- The first doubtful sector, by a walk from the front; and that there is one exactly if any sector is doubtful.
use mathlib.Core.Path.{◌≡◌, refl, sym, ap, ◌∙◌}
use mathlib.Core.Bool.{Bool, true, false, true≢false}
use mathlib.Core.List.{List}
use Prim.Native.Nat.{ℕ, zero, suc, ◌+◌, ◌-◌, ◌≤◌, ◌<◌}
use native.Mathlib.Omega.{arith}
use lib.Dec.{eqb}
use borrow.Author.Tests.{ne_eqb, eqb-true, eqb-false}
use Rattle.buffer.specs.Bytes.{Bytes}
use Rattle.refusal.specs.declared.Refusal.TheVariants.{NotHeld, NotKnown}
use Rattle.block.specs.Block.{Row}
use Rattle.block.specs.Log.{used}
use Rattle.sector_log.specs.LookUp.{blocks, in_block, outside, doubtful, first_outside, first_doubtful, absence}
use Rattle.sector_log.proofs.InBlock.{outside-zero, zero-outside}
use Rattle.sector_log.specs.Promises.{FirstAt, FirstEnd}

-- past a run of sectors that are in blocks
skip : (rows : List Row) (j k n : ℕ) → ((i : ℕ) → i < j → in_block rows (n + i) ≡ true) → first_outside rows (j + k) n ≡ first_outside rows k (n + j)
unfolding first_outside
skip rows zero k n f =
    let a : 0 + k ≡ k = omega arith in
    let b : n ≡ n + 0 = omega arith in
    ap (λ (x : ℕ). first_outside rows x n) a ∙ ap (first_outside rows k) b
skip rows (suc j) k n f =
    let a : suc j + k ≡ suc (j + k) = omega arith in
    let b : suc n + j ≡ n + suc j = omega arith in
    let z : n + 0 ≡ n = omega arith in
    let here : in_block rows n ≡ true = ap (in_block rows) (sym z) ∙ f 0 (omega arith) in
    ap (λ (x : ℕ). first_outside rows x n) a
    ∙ rw here (skip rows j k (suc n) (λ i h. let d : suc n + i ≡ n + suc i = omega arith in ap (in_block rows) d ∙ f (suc i) (omega arith)))
    ∙ ap (first_outside rows k) b

-- all sectors before n are in blocks, and n is in none
pub first-at : FirstAt
unfolding first_doubtful first_outside
first-at log n z h o =
    let a : n + suc (used log - n - 1) ≡ used log = omega arith in
    let b : 0 + n ≡ n = omega arith in
    ap (λ (x : ℕ). first_outside (blocks log) x 0) (sym a)
    ∙ skip (blocks log) n (suc (used log - n - 1)) 0 (λ i lt. let c : 0 + i ≡ i = omega arith in ap (in_block (blocks log)) c ∙ outside-zero (blocks log) n z i lt)
    ∙ rw (b, o)

-- all sectors of the used part are in blocks
pub first-end : FirstEnd
unfolding first_doubtful first_outside
first-end log n z h =
    let a : used log + 0 ≡ used log = omega arith in
    let b : 0 + used log ≡ used log = omega arith in
    ap (λ (x : ℕ). first_outside (blocks log) x 0) (sym a)
    ∙ skip (blocks log) (used log) 0 0 (λ i lt. let c : 0 + i ≡ i = omega arith in ap (in_block (blocks log)) c ∙ outside-zero (blocks log) n z i (omega arith))
    ∙ b

-- where the walk ends before the used part does, something is doubtful; else nothing is
pub outside-at : (rows : List Row) (k n : ℕ) → first_outside rows k n < n + k → in_block rows (first_outside rows k n) ≡ false
unfolding first_outside
outside-at rows zero n h = absurd (omega arith)
outside-at rows (suc k) n h = go (in_block rows n) refl (outside-at rows k (suc n))
  where
    go : (b : Bool) → in_block rows n ≡ b → (first_outside rows k (suc n) < suc n + k → in_block rows (first_outside rows k (suc n)) ≡ false)
        → in_block rows (first_outside rows (suc k) n) ≡ false
    go true q f = rw q (f (let g : first_outside rows k (suc n) < n + suc k = rw q at h in omega arith))
    go false q f = rw q q

-- each sector before it is in a block
pub inside-before : (rows : List Row) (k n i : ℕ) → n ≤ i → i < first_outside rows k n → in_block rows i ≡ true
unfolding first_outside
inside-before rows zero n i a b = absurd (omega arith)
inside-before rows (suc k) n i a b = go (in_block rows n) (eqb i n) refl refl (inside-before rows k (suc n) i)
  where
    go : (t u : Bool) → in_block rows n ≡ t → eqb i n ≡ u → (suc n ≤ i → i < first_outside rows k (suc n) → in_block rows i ≡ true) → in_block rows i ≡ true
    go false u q e f = absurd (let g : i < n = rw q at b in omega arith)
    go true true q e f = ap (in_block rows) (eqb-true i n e) ∙ q
    go true false q e f = f (omega (arith, eqb-false i n e)) (rw q at b)

all_in : (rows : List Row) (k n : ℕ) → n + k ≤ first_outside rows k n → (i : ℕ) → n ≤ i → i < n + k → in_block rows i ≡ true
unfolding first_outside
all_in rows zero n h i a b = absurd (omega arith)
all_in rows (suc k) n h i a b = go (in_block rows n) (eqb i n) refl refl (λ g. all_in rows k (suc n) g i)
  where
    go : (t u : Bool) → in_block rows n ≡ t → eqb i n ≡ u → (suc n + k ≤ first_outside rows k (suc n) → suc n ≤ i → i < suc n + k → in_block rows i ≡ true) → in_block rows i ≡ true
    go false u q e f = absurd (let g : n + suc k ≤ n = rw q at h in omega arith)
    go true true q e f = ap (in_block rows) (eqb-true i n e) ∙ q
    go true false q e f = f (let g : n + suc k ≤ first_outside rows k (suc n) = rw q at h in omega arith) (omega (arith, eqb-false i n e)) (omega arith)

pub absence-known : (log : Bytes) → first_doubtful log < used log → absence log ≡ NotKnown (record { 0 = first_doubtful log })
unfolding absence doubtful first_doubtful
absence-known log h =
    let n = first_outside (blocks log) (used log) 0 in
    let o : in_block (blocks log) n ≡ false = outside-at (blocks log) (used log) 0 (omega arith) in
    rw (ne_eqb (outside (blocks log) (used log)) 0 (λ z. true≢false (sym (outside-zero (blocks log) (used log) z n h) ∙ o)))

pub absence-held : (log : Bytes) → used log ≤ first_doubtful log → absence log ≡ NotHeld
unfolding absence doubtful first_doubtful
absence-held log h =
    let z : outside (blocks log) (used log) ≡ 0 = zero-outside (blocks log) (used log) (λ i lt. all_in (blocks log) (used log) 0 (omega arith) i (omega arith) (omega arith)) in
    rw z
