-- One turn of the loops that cut and that fill, over every unit. w is the unit's length as the code has it.
use mathlib.Core.Path.{◌≡◌, refl, sym, ap, ap₂, ◌∙◌}
use mathlib.Core.Bool.{Bool, true, false}
use mathlib.Core.List.{[], ◌∷◌, ◌++◌, append_assoc, append-nil}
use Prim.Native.Nat.{ℕ, ◌+◌, ◌*◌, ◌-◌, ◌/◌, ◌%◌, ◌≤◌, ◌<◌}
use native.Mathlib.Omega.{arith}
use native.Mathlib.Nat.{zero-div, mul-zero, zero-mod, mod-eq_of_lt}
use lib.Arith.{sub-sub_self}
use borrow.Author.Tests.{eqb-true, ne_eqb}
use lib.ListN.{length, get_or, take, drop}
use lib.Seq.{take_at, drop-cons, drop-drop, drop-append-add, drop-length}
use Rattle.buffer.specs.Bytes.{Bytes, same, put}
use Rattle.cut.specs.Cut.{zero_byte, repeat, unit_at, kept, cut_length, whole_units}
use Rattle.cut.proofs.Units.{length-repeat, repeat_snoc, kept_more, kept-stop}
use Rattle.cut.proofs.Multiples.{times, times_div, times_mod, Prior, prior, next_multiple, next_le}

-- ---- cutting: n bytes are left, and what is kept of them is what is kept of all

pub record Cutting (u b : Bytes) (n : ℕ) : Type 0 where
  pub within : n ≤ length b
  pub units : n % length u ≡ 0
  pub same_kept : kept u (n / length u) b ≡ kept u (length b / length u) b

pub cutting : (u b : Bytes) → length b % length u ≡ 0 → Cutting u b (length b)
cutting u b h = record { within = omega arith; units = h; same_kept = refl }

module _ (u b : Bytes) (w n : ℕ) (e : length u ≡ w) (c : Cutting u b n) where
  last : (p : Prior (length u) n) → take w (drop (n - w) b) ≡ unit_at u b p.count
  last p = ap₂ (λ (k m : ℕ). take k (drop m b)) (sym e) (ap (λ (k : ℕ). n - k) (sym e) ∙ p.rest)

  cut_room : 0 < n → w ≤ n
  cut_room h = omega (arith, (prior (length u) n c.units h).enough)

  -- the test of the last unit, as a part of b that ends at n
  pub cut_test : 0 < n → (r t : Bool) → r ≡ same (take (n - (n - w)) (drop (n - w) b)) u → r ≡ t → same (take w (drop (n - w) b)) u ≡ t
  cut_test h r t x y =
      let k : n - (n - w) ≡ w = sub-sub_self (cut_room h) in
      ap (λ (m : ℕ). same (take m (drop (n - w) b)) u) (sym k) ∙ sym x ∙ y

  pub cut_again : 0 < w → 0 < n → same (take w (drop (n - w) b)) u ≡ true → Cutting u b (n - w)
  cut_again q h s =
      let p = prior (length u) n c.units h in
      let f : n - w ≡ length u * p.count = ap (λ (k : ℕ). n - k) (sym e) ∙ p.rest in
      record {
        within = omega (arith, c.within);
        units = times_mod (length u) p.count (n - w) f;
        same_kept =
            ap (λ (k : ℕ). kept u k b) (times_div (length u) p.count (n - w) (omega arith) f)
            ∙ sym (kept_more u p.count b (ap (λ (x : Bytes). same x u) (sym (last p)) ∙ s))
            ∙ ap (λ (k : ℕ). kept u k b) (sym p.quotient)
            ∙ c.same_kept;
      }

  pub cut_stop : 0 < n → same (take w (drop (n - w) b)) u ≡ false → n ≡ cut_length u b
  unfolding cut_length
  cut_stop h s =
      let p = prior (length u) n c.units h in
      times (length u) n c.units
      ∙ ap (λ (k : ℕ). length u * k)
      (p.quotient
      ∙ sym (kept-stop u p.count b (ap (λ (x : Bytes). same x u) (sym (last p)) ∙ s))
      ∙ ap (λ (k : ℕ). kept u k b) (sym p.quotient)
      ∙ c.same_kept)

  pub cut_all : n < w → n ≡ cut_length u b
  unfolding cut_length kept
  cut_all h =
      let z : n ≡ 0 = sym (mod-eq_of_lt (omega arith)) ∙ c.units in
      z
      ∙ sym (mul-zero (length u))
      ∙ ap (λ (k : ℕ). length u * k)
      (sym (ap (λ (k : ℕ). kept u k b) (ap (λ (m : ℕ). m / length u) z ∙ zero-div (length u))) ∙ c.same_kept)

-- ---- filling: the units before `at` are written, the rest of d₀ stands

pub record Filling (u d₀ d : Bytes) (at : ℕ) : Type 0 where
  pub within : at ≤ length d₀
  pub same_length : length d ≡ length d₀
  pub units : at % length u ≡ 0
  pub filled : d ≡ repeat u (at / length u) ++ drop at d₀

pub filling : (u d : Bytes) → Filling u d d 0
unfolding repeat
filling u d =
    record {
      within = omega arith;
      same_length = refl;
      units = zero-mod (length u);
      filled = ap (λ (k : ℕ). repeat u k ++ d) (sym (zero-div (length u)));
    }

module _ (u d₀ d : Bytes) (w at : ℕ) (e : length u ≡ w) (q : 0 < w) (h : length d₀ % length u ≡ 0) (c : Filling u d₀ d at) where
  pub fill_room : at < length d₀ → at + w ≤ length d₀
  fill_room l = omega (arith, next_le (length u) at (length d₀) c.units h l)

  pub fill_again : (z x : Bytes) → z ≡ u → x ≡ put d at z → length x ≡ length d → at < length d₀ → Filling u d₀ x (at + w)
  fill_again z x ez ex n l =
      let k = at / length u in
      let f : length (repeat u k) ≡ at = length-repeat u k ∙ sym (times (length u) at c.units) in
      let a : at + w ≡ at + length u = ap (λ (m : ℕ). at + m) (sym e) in
      let j = next_multiple (length u) at (omega arith) c.units in
      let g : drop (at + length u) d ≡ drop (at + length u) d₀ =
      ap₂ (λ (m : ℕ) (y : Bytes). drop (m + length u) y) (sym f) c.filled
      ∙ drop-append-add (repeat u k) (drop at d₀) (length u)
      ∙ drop-drop (length u) at d₀ in
      record {
        within = fill_room l;
        same_length = n ∙ c.same_length;
        units = ap (λ (m : ℕ). m % length u) a ∙ j.1;
        filled =
            ex
            ∙ ap (put d at) ez
            ∙ ap₂ ◌++◌ (ap (take at) c.filled ∙ take_at (repeat u k) (drop at d₀) at f) (ap (λ (y : Bytes). u ++ y) g)
            ∙ sym (append_assoc (repeat u k) u (drop (at + length u) d₀))
            ∙ ap₂ ◌++◌ (sym (repeat_snoc u k) ∙ ap (repeat u) (sym j.0 ∙ ap (λ (m : ℕ). m / length u) (sym a))) (ap (λ (m : ℕ). drop m d₀) (sym a));
      }

pub fill_all : (u d₀ d : Bytes) (at : ℕ) → Filling u d₀ d at → length d₀ ≤ at → d ≡ repeat u (length d₀ / length u)
fill_all u d₀ d at c l =
    let e : at ≡ length d₀ = omega (arith, c.within) in
    c.filled
    ∙ ap (λ (m : ℕ). repeat u (m / length u) ++ drop m d₀) e
    ∙ ap (λ (y : Bytes). repeat u (length d₀ / length u) ++ y) (drop-length d₀)
    ∙ append-nil (repeat u (length d₀ / length u))

-- ---- the tests as the code has them

pub whole_units_lem : (u : Bytes) (n : ℕ) → whole_units u n ≡ true → n % length u ≡ 0
unfolding whole_units
whole_units_lem u n h = eqb-true (n % length u) 0 h

-- the byte at i as a unit
byte_unit : (b : Bytes) (i : ℕ) → i < length b → take 1 (drop i b) ≡ get_or b i 0 ∷ []
byte_unit b i h = rw (drop-cons b i 0)

pub byte-zero : (b : Bytes) (i : ℕ) → i < length b → get_or b i 0 ≡ 0 → same (take 1 (drop i b)) zero_byte ≡ true
byte-zero b i h e = rw (byte_unit b i h, e)

pub byte_other : (b : Bytes) (i : ℕ) → i < length b → (get_or b i 0 ≡ 0 → ⊥) → same (take 1 (drop i b)) zero_byte ≡ false
byte_other b i h n = rw (byte_unit b i h, ne_eqb (get_or b i 0) 0 n)
