-- The visit of a file that was written ends, with a visit for each of its blocks at most.
use mathlib.Core.Path.{◌≡◌, refl, sym, ap, ap₂, ◌∙◌}
use mathlib.Core.Option.{some}
use Prim.Native.Nat.{ℕ, zero, suc, ◌+◌, ◌-◌, ◌*◌, ◌≤◌, ◌<◌, min}
use native.Mathlib.Nat.{mul-suc}
use native.Mathlib.Omega.{arith}
use lib.ListN.{length}
use borrow.Author.Tests.{le-ltb, ne_eqb}
use Rattle.buffer.specs.Bytes.{Bytes}
use Rattle.block.specs.Block.{Row}
use Rattle.sector_log.specs.LookUp.{held}
use Rattle.visit.specs.declared.Walked.{Walked}
use Rattle.visit.specs.Visit.{walked, more, visiting}
use Rattle.tree.specs.Tree.{piece}
use Rattle.descent.specs.Descent.{and_then, in_order}
use Rattle.writer.specs.Blocks.{blocks_from}
use Rattle.std.specs.Prelude.{Ok, Result, ⊤}
use Rattle.refusal.specs.declared.Refusal.{Refusal}

-- ---- sums

-- the sum of f at k places from i on
unfoldable pub sum_from : (ℕ → ℕ) → ℕ → ℕ → ℕ
sum_from f zero i = 0
sum_from f (suc k) i = f i + sum_from f k (suc i)

pub sum_one : (f : ℕ → ℕ) → sum_from f 1 0 ≡ f 0
unfolding sum_from
sum_one f = omega arith

sum_both : (f : ℕ → ℕ) (a b i : ℕ) → sum_from f (a + b) i ≡ sum_from f a i + sum_from f b (i + a)
unfolding sum_from
sum_both f zero b i =
    let e : i ≡ i + 0 = omega arith in
    let z : 0 + b ≡ b = omega arith in
    let q = ap (λ (n : ℕ). sum_from f n i) z ∙ ap (sum_from f b) e in
    omega (arith, q)
sum_both f (suc a) b i =
    let e : suc i + a ≡ i + suc a = omega arith in
    let z : suc a + b ≡ suc (a + b) = omega arith in
    let r = ap (λ (n : ℕ). sum_from f n i) z in
    let s = sum_both f a b (suc i) in
    let q = ap (sum_from f b) e in
    omega (arith, r, s, q)

sum_shift : (f : ℕ → ℕ) (s m i : ℕ) → sum_from (λ j. f (s + j)) m i ≡ sum_from f m (s + i)
unfolding sum_from
sum_shift f s zero i = refl
sum_shift f s (suc m) i = let e : s + suc i ≡ suc (s + i) = omega arith in ap (λ (n : ℕ). f (s + i) + n) (sum_shift f s m (suc i) ∙ ap (sum_from f m) e)

pub sum_mono : (f : ℕ → ℕ) (a b i : ℕ) → a ≤ b → sum_from f a i ≤ sum_from f b i
sum_mono f a b i h =
    let e : a + (b - a) ≡ b = omega arith in
    let q = sym (ap (λ (n : ℕ). sum_from f n i) e) ∙ sum_both f a (b - a) i in
    omega (arith, q)

sum_last : (f : ℕ → ℕ) (x : ℕ) → sum_from f (suc x) 0 ≡ sum_from f x 0 + f x
unfolding sum_from
sum_last f x =
    let e : x + 1 ≡ suc x = omega arith in
    let z : 0 + x ≡ x = omega arith in
    let q = sym (ap (λ (n : ℕ). sum_from f n 0) e) ∙ sum_both f x 1 0 in
    let g = ap f z in
    omega (arith, q, g)

-- where each place x of a level has the places from p x to p x + m x of the one below it, and these lie apart, all sums of the level are those of the one below
-- and one for each place
pub sum_above : (f g m : ℕ → ℕ) (p n x : ℕ) → ((y : ℕ) → y < x → (g y ≡ sum_from (λ j. f (p * y + j)) (m y) 0 + 1) × (m y ≤ p) × (p * y + m y ≤ n))
    → sum_from g x 0 ≤ x + sum_from f (min (p * x) n) 0
unfolding sum_from
sum_above f g m p n zero h = omega arith
sum_above f g m p n (suc x) h =
    let before = sum_above f g m p n x (λ y l. h y (omega arith)) in
    let here = h x (omega arith) in
    let last = sum_last g x in
    let low : min (p * x) n ≡ p * x = omega (arith, here.2) in
    let b = ap (λ (k : ℕ). sum_from f k 0) low in
    let s = sum_shift f (p * x) (m x) 0 in
    let z : p * x + 0 ≡ 0 + p * x = omega arith in
    let sz = ap (sum_from f (m x)) z in
    let both = sum_both f (p * x) (m x) 0 in
    let next : p * suc x ≡ p * x + p = mul-suc p x in
    let le : p * x + m x ≤ min (p * suc x) n = omega (arith, here.1, here.2, next) in
    let up = sum_mono f (p * x + m x) (min (p * suc x) n) 0 le in
    adds (sum_from g x 0) _ (g x) _ (sum_from f (p * x) 0) _ _ (sum_from f (m x) (0 + p * x)) _ (sum_from f (min (p * suc x) n) 0) x before here.0 last b s sz both up
  where
    adds : (T0 T1 G B0 B S S1 S2 C U x : ℕ) → T0 ≤ x + B0 → G ≡ S + 1 → T1 ≡ T0 + G → B0 ≡ B → S ≡ S1 → S1 ≡ S2 → C ≡ B + S2 → C ≤ U → T1 ≤ suc x + U
    adds T0 T1 G B0 B S S1 S2 C U x a b c d e f g h = omega arith

-- ---- one visit, and visits in order

pub visit_found : (log : Bytes) (nest left kind count : ℕ) (score : Bytes) (next : Bytes → Walked) (r : Row)
    → nest ≤ 16 → 0 < left → held log kind score ≡ some r → length r.bytes ≤ count → visiting log nest left kind count score next ≡ more (next r.bytes)
unfolding visiting
visit_found log nest left kind count score next r n l h c = rw (le-ltb 16 nest n, ne_eqb left 0 (λ z. omega arith), h, le-ltb count (length r.bytes) c) refl

pub order_sum : (go : Bytes → ℕ → Walked) (b : Bytes) (f : ℕ → ℕ) (left k i n : ℕ)
    → ((j : ℕ) → i ≤ j → j < i + k → (a : ℕ) → f j ≤ a → go (piece 20 j b) a ≡ walked (f j) (Ok tt))
    → n + sum_from f k i ≤ left → in_order go 20 b left k i n ≡ walked (n + sum_from f k i) (Ok tt)
unfolding in_order sum_from
order_sum go b f left zero i n h l = let e : n ≡ n + 0 = omega arith in ap (λ (v : ℕ). walked v (Ok tt)) e
order_sum go b f left (suc k) i n h l =
    let here = h i (omega arith) (omega arith) (left - n) (omega arith) in
    let rest = order_sum go b f left k (suc i) (n + f i) (λ j g t a q. h j (omega arith) (omega arith) a q) (omega arith) in
    let e : n + f i + sum_from f k (suc i) ≡ n + (f i + sum_from f k (suc i)) = omega arith in
    ap₂ (λ (x : Result ⊤ Refusal) (v : ℕ). and_then x (n + v) (λ m. in_order go 20 b left k (suc i) m)) (ap (λ (y : Walked). y.end) here) (ap (λ (y : Walked). y.visits) here)
    ∙ rest ∙ ap (λ (v : ℕ). walked v (Ok tt)) e

pub blocks-count : (kind w : ℕ) (b : Bytes) (k i : ℕ) → length (blocks_from kind w b k i) ≡ k
unfolding blocks_from
blocks-count kind w b zero i = refl
blocks-count kind w b (suc k) i = ap suc (blocks-count kind w b k (suc i))
