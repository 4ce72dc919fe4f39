-- The first block of a type and score, by a look at sector after sector; and what is found is sound.
use mathlib.Core.Path.{◌≡◌, refl, sym, ap, ◌∙◌}
use mathlib.Core.Bool.{Bool, true, false, cond, ◌&&◌, true≢false}
use mathlib.Core.List.Memᴰ
use mathlib.Core.List.{List, [], ◌∷◌, Memᴰ}
use mathlib.Core.Logic.{◌⊎◌, inl, inr}
use mathlib.Core.Option.{Option, none, some}
use Prim.Native.Nat.{ℕ, suc, ◌+◌, ◌≤◌}
use native.Mathlib.Omega.{arith}
use lib.Dec.{eqb}
use borrow.Author.Tests.{eqb-true, eq-eqb}
use Rattle.bedrock.specs.Places.{found_from}
use Rattle.bedrock.proofs.Choices.{and-true}
use Rattle.buffer.specs.Bytes.{Bytes, same}
use Rattle.buffer.proofs.Bytes.{same_true, same_refl}
use Rattle.block.specs.Block.{Row, parts}
use Rattle.block.specs.Log.{sound_as, sound}
use Rattle.block.proofs.Sound.{as_reads, as_other}
use Rattle.sector_log.specs.LookUp.{blocks, first_of}
use Rattle.sector_log.proofs.Blocks.{Ascends, blocks_in, blocks_out, blocks_ascend, step-none, one-some}

pub first-none : (log : Bytes) (k n t : ℕ) (s : Bytes) → sound_as log n t s ≡ none → first_of t s (found_from (sound log) (suc k) n) ≡ first_of t s (found_from (sound log) k (suc n))
unfolding first_of
first-none log k n t s e = go (sound log n) refl
  where
    go : (o : Option Row) → sound log n ≡ o → first_of t s (found_from (sound log) (suc k) n) ≡ first_of t s (found_from (sound log) k (suc n))
    go none q = ap (first_of t s) (step-none log k n q)
    go (some r) q = ap (first_of t s) (one-some log k n r q) ∙ rw (as_other log n t s r q e)

pub first_some : (log : Bytes) (k n t : ℕ) (s : Bytes) (r : Row) → sound_as log n t s ≡ some r → first_of t s (found_from (sound log) (suc k) n) ≡ some r
unfolding first_of
first_some log k n t s r e =
    let p = as_reads log n t s r e in
    ap (first_of t s) (one-some log k n r p.0)
    ∙ rw (eq-eqb r.kind t p.1, ap (λ (x : Bytes). same x s) p.2 ∙ same_refl s)

-- what is found is a sound block of that type and score
first_member : (t : ℕ) (s : Bytes) (rows : List Row) (r : Row) → first_of t s rows ≡ some r → Memᴰ r rows × (r.kind ≡ t) × (r.score ≡ s)
unfolding first_of
first_member t s [] r e = let y : ◌≡◌ {A = ℕ} 0 1 = cc in absurd (omega arith)
first_member t s (x ∷ rows) r e = go (eqb x.kind t && same x.score s) refl (first_member t s rows r) e
  where
    go : (b : Bool) → (eqb x.kind t && same x.score s) ≡ b → (first_of t s rows ≡ some r → Memᴰ r rows × (r.kind ≡ t) × (r.score ≡ s))
        → cond b (some x) (first_of t s rows) ≡ some r → Memᴰ r (x ∷ rows) × (r.kind ≡ t) × (r.score ≡ s)
    go false q f d = let p = f d in (Memᴰ.tail p.0, p.1, p.2)
    go true q f d =
        let z : r ≡ x = cc in
        let p = and-true (eqb x.kind t) (same x.score s) q in
        (Memᴰ.head z, ap (λ (y : Row). y.kind) z ∙ eqb-true x.kind t p.0, ap (λ (y : Row). y.score) z ∙ same_true x.score s p.1)

pub first-sound : (log : Bytes) (t : ℕ) (s : Bytes) (r : Row) → first_of t s (blocks log) ≡ some r → (sound log r.first ≡ some r) × (r.kind ≡ t) × (r.score ≡ s)
first-sound log t s r e = let p = first_member t s (blocks log) r e in (blocks_out log r p.0, p.1, p.2)

-- ---- the first of a type and score starts before all others of them

from_lo : (lo : ℕ) (rows : List Row) (x : Row) → Ascends lo rows → Memᴰ x rows → lo ≤ x.first
from_lo lo [] x a m = absurd (Memᴰ.not-nil m)
from_lo lo (r ∷ rows) x a m = go (Memᴰ.cases_cons m) (from_lo (r.first + parts r) rows x a.1)
  where
    go : (x ≡ r) ⊎ Memᴰ x rows → (Memᴰ x rows → r.first + parts r ≤ x.first) → lo ≤ x.first
    go (inl e) f = let g : x.first ≡ r.first = ap (λ (y : Row). y.first) e in omega (arith, g, a.0)
    go (inr n) f = omega (arith, f n, a.0)

first-least : (t : ℕ) (s : Bytes) (lo : ℕ) (rows : List Row) (r x : Row) → Ascends lo rows → first_of t s rows ≡ some r
    → Memᴰ x rows → x.kind ≡ t → x.score ≡ s → r.first ≤ x.first
unfolding first_of
first-least t s lo [] r x a e m k v = absurd (Memᴰ.not-nil m)
first-least t s lo (y ∷ rows) r x a e m k v =
    go (eqb y.kind t && same y.score s) refl e (Memᴰ.cases_cons m) (λ e' n. first-least t s (y.first + parts y) rows r x a.1 e' n k v)
  where
    go : (b : Bool) → (eqb y.kind t && same y.score s) ≡ b → cond b (some y) (first_of t s rows) ≡ some r → (x ≡ y) ⊎ Memᴰ x rows
        → (first_of t s rows ≡ some r → Memᴰ x rows → r.first ≤ x.first) → r.first ≤ x.first
    go true q e' (inl z) rest = let w : y ≡ r = cc in
        let f : x.first ≡ y.first = ap (λ (u : Row). u.first) z in
        let g : y.first ≡ r.first = ap (λ (u : Row). u.first) w in
        omega (arith, f, g)
    go true q e' (inr n) rest = let w : y ≡ r = cc in
        let g : y.first ≡ r.first = ap (λ (u : Row). u.first) w in
        let h = from_lo (y.first + parts y) rows x a.1 n in
        omega (arith, g, h)
    go false q e' (inl z) rest =
        let is : (eqb y.kind t && same y.score s) ≡ true =
        ap (λ (u : Row). eqb u.kind t && same u.score s) (sym z) ∙ rw (eq-eqb x.kind t k, ap (λ (u : Bytes). same u s) v ∙ same_refl s) in
        absurd (true≢false (sym is ∙ q))
    go false q e' (inr n) rest = rest e' n

pub least : (log : Bytes) (t : ℕ) (s : Bytes) (r x : Row) → first_of t s (blocks log) ≡ some r → sound log x.first ≡ some x
    → x.kind ≡ t → x.score ≡ s → r.first ≤ x.first
least log t s r x e q k v = first-least t s 0 (blocks log) r x (blocks_ascend log) e (blocks_in log x q) k v
