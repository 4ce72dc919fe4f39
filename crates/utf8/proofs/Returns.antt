-- The cases of the pass, one for each return of the code.
use mathlib.Core.Path.{◌≡◌, refl, sym}
use mathlib.Core.Bool.{Bool, true, false, cond}
use mathlib.Core.List.{[], ◌∷◌}
use Prim.Native.Nat.{ℕ, zero, suc, ◌+◌, ◌-◌, ◌≤◌, ◌<◌}
use native.Mathlib.Numerals.{add-one}
use native.Mathlib.Omega.{arith}
use lib.Dec.{ltb, eqb}
use borrow.Author.Tests.{ltb-true, ltb-false, eqb-true, eqb-false, ne_eqb}
use lib.ListN.{length, get_or, drop, replicate, drop_of_length-le}
use lib.Seq.{drop-cons}
use Rattle.std.specs.Prelude.{Option, Some, None}
use Rattle.buffer.specs.Bytes.{Bytes}
use Rattle.utf8.specs.Grammar.{tail, follows}
use Rattle.utf8.specs.Scan.{low_after, high_after, wait, due, goes_on, Tells}
use Rattle.utf8.specs.declared.Due.{Due}
use Rattle.utf8.proofs.Rows.{begins, begins-none, inside, under, over}

-- ---- the second octet's range

pub low_e0 : (b : ℕ) → b ≡ 0xE0 → 0xA0 ≡ low_after b
unfolding low_after
low_e0 b e = rw e

pub low_f0 : (b : ℕ) → b ≡ 0xF0 → 0x90 ≡ low_after b
unfolding low_after
low_f0 b e = rw e

pub low-tail : (b : ℕ) → (b ≡ 0xE0 → ⊥) → (b ≡ 0xF0 → ⊥) → 0x80 ≡ low_after b
unfolding low_after
low-tail b m n = rw (ne_eqb b 0xE0 m, ne_eqb b 0xF0 n)

pub high_ed : (b : ℕ) → b ≡ 0xED → 0x9F ≡ high_after b
unfolding high_after
high_ed b e = rw e

pub high_f4 : (b : ℕ) → b ≡ 0xF4 → 0x8F ≡ high_after b
unfolding high_after
high_f4 b e = rw e

pub high-tail : (b : ℕ) → (b ≡ 0xED → ⊥) → (b ≡ 0xF4 → ⊥) → 0xBF ≡ high_after b
unfolding high_after
high-tail b m n = rw (ne_eqb b 0xED m, ne_eqb b 0xF4 n)

-- ---- the first octet

module _ (b : ℕ) where
  pub first_nul : b ≡ 0 → Tells None [] b
  first_nul e bs = sym (begins-none b bs 0 0 0 refl refl refl (omega arith) (omega arith))

  pub first_one : (b ≡ 0 → ⊥) → b < 0x80 → Tells (wait 0 b) [] b
  unfolding due
  first_one n h bs = sym (begins b bs 0 refl refl refl (omega arith) (omega arith))

  pub first_tail : 0x80 ≤ b → b < 0xC2 → Tells None [] b
  first_tail h k bs = sym (begins-none b bs 1 0x80 0xC1 refl refl refl h (omega arith))

  pub first_two : 0xC2 ≤ b → b < 0xE0 → Tells (wait 1 b) [] b
  unfolding due
  first_two h k bs =
      rw (← low-tail b (λ e. omega arith) (λ e. omega arith), ← high-tail b (λ e. omega arith) (λ e. omega arith))
      (sym (begins b bs 1 refl refl refl h (omega arith)))

  pub first_three : 0xE0 ≤ b → b < 0xF0 → Tells (wait 2 b) [] b
  unfolding due low_after high_after
  first_three h k bs = go (eqb b 0xE0) refl (eqb b 0xED) refl (ltb b 0xED) refl
    where
      go : (x : Bool) → eqb b 0xE0 ≡ x → (y : Bool) → eqb b 0xED ≡ y → (z : Bool) → ltb b 0xED ≡ z → goes_on (wait 2 b) bs ≡ follows [] (b ∷ bs)
      go true p y q z r = rw (eqb-true b 0xE0 p) (sym (begins 0xE0 bs 2 refl refl refl (omega arith) (omega arith)))
      go false p true q z r = rw (eqb-true b 0xED q) (sym (begins 0xED bs 4 refl refl refl (omega arith) (omega arith)))
      go false p false q true r =
          let n = eqb-false b 0xE0 p in
          rw (p, q, ne_eqb b 0xF0 (λ e. omega arith), ne_eqb b 0xF4 (λ e. omega arith))
          (sym (begins b bs 3 refl refl refl (omega (arith, n)) (omega (arith, ltb-true b 0xED r))))
      go false p false q false r =
          let n = eqb-false b 0xED q in
          rw (p, q, ne_eqb b 0xF0 (λ e. omega arith), ne_eqb b 0xF4 (λ e. omega arith))
          (sym (begins b bs 5 refl refl refl (omega (arith, n, ltb-false b 0xED r)) (omega arith)))

  pub first_four : 0xF0 ≤ b → b < 0xF5 → Tells (wait 3 b) [] b
  unfolding due low_after high_after
  first_four h k bs = go (eqb b 0xF0) refl (eqb b 0xF4) refl
    where
      go : (x : Bool) → eqb b 0xF0 ≡ x → (y : Bool) → eqb b 0xF4 ≡ y → goes_on (wait 3 b) bs ≡ follows [] (b ∷ bs)
      go true p y q = rw (eqb-true b 0xF0 p) (sym (begins 0xF0 bs 6 refl refl refl (omega arith) (omega arith)))
      go false p true q = rw (eqb-true b 0xF4 q) (sym (begins 0xF4 bs 8 refl refl refl (omega arith) (omega arith)))
      go false p false q =
          let m = eqb-false b 0xF0 p in
          let n = eqb-false b 0xF4 q in
          rw (p, q, ne_eqb b 0xE0 (λ e. omega arith), ne_eqb b 0xED (λ e. omega arith))
          (sym (begins b bs 7 refl refl refl (omega (arith, m)) (omega (arith, n))))

  pub first_past : 0xF5 ≤ b → Tells None [] b
  first_past h bs = sym (begins-none b bs 9 0xF5 b refl refl refl h (omega arith))

-- ---- an octet that is due

module _ (d : Due) (b : ℕ) where
  pub due-none : (a : Option Due) → d.left ≡ 0 → Tells a [] b → Tells a (due d) b
  unfolding due
  due-none a e t bs = rw e (t bs)

  pub due-under : (d.left ≡ 0 → ⊥) → b < d.low → Tells None (due d) b
  unfolding due follows
  due-under n h bs = rw (ne_eqb d.left 0 n, under (record { low = d.low; high = d.high }) b h)

  pub due-over : (d.left ≡ 0 → ⊥) → d.high < b → Tells None (due d) b
  unfolding due follows
  due-over n h bs = rw (ne_eqb d.left 0 n, over (record { low = d.low; high = d.high }) b h)

  pub due-next : (d.left ≡ 0 → ⊥) → d.low ≤ b → b ≤ d.high → Tells (Some (record { left = d.left - 1; low = 0x80; high = 0xBF })) (due d) b
  unfolding due follows
  due-next n h k bs = rw (ne_eqb d.left 0 n, inside (record { low = d.low; high = d.high }) b h k) (tails (d.left - 1))
    where
      tails : (n : ℕ) → follows (cond (eqb n 0) [] (tail ∷ replicate (n - 1) tail)) bs ≡ follows (replicate n tail) bs
      tails zero = refl
      tails (suc n) = let m : suc n - 1 ≡ n = omega arith in rw (ne_eqb (suc n) 0 (λ e. omega arith), m)

-- ---- the pass

-- at the end nothing may be due
pub ends : (d : Due) (s : Bytes) (i : ℕ) → length s ≤ i → eqb d.left 0 ≡ follows (due d) (drop i s)
unfolding due follows
ends d s i h = rw (drop_of_length-le s h) (go (eqb d.left 0) refl)
  where
    go : (x : Bool) → eqb d.left 0 ≡ x → eqb d.left 0 ≡ follows (due d) []
    go true e = rw e
    go false e = rw e

-- an octet taken
module _ (a : Option Due) (d : Due) (s : Bytes) (i : ℕ) (h : i < length s) (t : Tells a (due d) (get_or s i 0)) where
  goes : goes_on a (drop (i + 1) s) ≡ follows (due d) (drop i s)
  goes = rw (drop-cons s i 0 h, add-one) (t (drop (suc i) s))

  pub goes_on_lem : (e : Due) → a ≡ Some e → follows (due e) (drop (i + 1) s) ≡ follows (due d) (drop i s)
  goes_on_lem e w = rw w at goes

  pub goes_ill : a ≡ None → false ≡ follows (due d) (drop i s)
  goes_ill w = rw w at goes
