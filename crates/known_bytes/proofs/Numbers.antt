-- Numbers of eight bytes, and what is known written field by field.
use mathlib.Core.Path.{◌≡◌, refl, sym, ap, ap₂, ◌∙◌}
use mathlib.Core.Bool.{Bool, true, false}
use mathlib.Core.List.{[], ◌∷◌, ◌++◌}
use Prim.Native.Nat.{ℕ, ◌+◌, ◌-◌, ◌≤◌}
use native.Mathlib.Omega.{arith}
use lib.Dec.{eqb}
use lib.ListN.{length, get_or, take, drop, set, length-take, length-drop, length-append}
use borrow.Author.Tests.{eq-eqb, ne_eqb}
use Rattle.digits.specs.Number.{digits, be_bytes, be_number}
use Rattle.digits.proofs.NumberLaws.{length_digits}
use Rattle.buffer.specs.Bytes.{Bytes, put}
use Rattle.buffer.proofs.Put.{length-put, put_next, put_mid_lem, put_one, put_whole}
use Rattle.sector_number.specs.declared.SectorNumber.{SectorNumber}
use Rattle.known.specs.declared.Known.{Known}
use Rattle.known_bytes.specs.KnownBytes.{doubt_number, doubt_by, exact_byte, known_bytes, known_of}
use Rattle.std.specs.Prelude.{Some, None, Option as Optional}

-- the part that is read
pub number_read : (s : Bytes) (at : ℕ) → be_number (take (at + 8 - at) (drop at s)) ≡ be_number (take 8 (drop at s))
number_read s at = let z : at + 8 - at ≡ 8 = omega arith in ap (λ (n : ℕ). be_number (take n (drop at s))) z

-- the part that is written, and comes back
module _ (s ys : Bytes) (at n : ℕ) (h : at + 8 ≤ length s) (e : ys ≡ be_bytes (length (take (at + 8 - at) (drop at s))) n) where
  eight : length (take (at + 8 - at) (drop at s)) ≡ 8
  eight = simp (length-take, length-drop) (omega (arith, h))

  digits-written : ys ≡ be_bytes 8 n
  digits-written = e ∙ ap (λ (w : ℕ). be_bytes w n) eight

  pub number-written : take at s ++ (ys ++ drop (at + 8 - at) (drop at s)) ≡ put s at (be_bytes 8 n)
  number-written =
      put_mid_lem s ys at (at + 8) (omega arith) (ap length digits-written ∙ length_digits 256 8 n ∙ omega arith) ∙ ap (put s at) digits-written

  pub number-length : length (take at s ++ (ys ++ drop (at + 8 - at) (drop at s))) ≡ length s
  number-length = ap length number-written ∙ length-put s at (be_bytes 8 n) (omega (arith, h, length_digits 256 8 n))

-- ---- a doubt as a number

pub clear_by : (n : ℕ) → n ≡ 0 → None ≡ doubt_by n
unfolding doubt_by
clear_by n e = rw (eq-eqb n 0 e)

pub at_by : (n : ℕ) → (n ≡ 0 → ⊥) → Some (record { 0 = n - 1 }) ≡ doubt_by n
unfolding doubt_by
at_by n e = rw (ne_eqb n 0 e)

pub clear_number : (d : Optional SectorNumber) → d ≡ None → be_bytes 8 0 ≡ be_bytes 8 (doubt_number d)
clear_number d e = ap (λ (x : Optional SectorNumber). be_bytes 8 (doubt_number x)) (sym e)

-- the successor of the greatest number has the bytes of 0
around : be_bytes 8 0 ≡ be_bytes 8 18446744073709551616
unfolding digits
around = refl

pub greatest_number : (d : Optional SectorNumber) (n : SectorNumber) → d ≡ Some n → n.0 ≡ 18446744073709551615 → be_bytes 8 0 ≡ be_bytes 8 (doubt_number d)
greatest_number d n e g =
    let z : n.0 + 1 ≡ 18446744073709551616 = omega (arith, g) in
    around ∙ ap (be_bytes 8) (sym z) ∙ ap (λ (x : Optional SectorNumber). be_bytes 8 (doubt_number x)) (sym e)

pub at-number : (d : Optional SectorNumber) (n : SectorNumber) → d ≡ Some n → be_bytes 8 (n.0 + 1) ≡ be_bytes 8 (doubt_number d)
at-number d n e = ap (λ (x : Optional SectorNumber). be_bytes 8 (doubt_number x)) (sym e)

pub is-exact : (b : Bool) → b ≡ true → 1 ≡ exact_byte b
is-exact b e = ap exact_byte (sym e)

pub not-exact : (b : Bool) → b ≡ false → 0 ≡ exact_byte b
not-exact b e = ap exact_byte (sym e)

-- ---- what is known, written and read field by field

pub length-known : (k : Known) → length (known_bytes k) ≡ 25
unfolding known_bytes digits
length-known k = refl

module _ (b b₁ b₂ b₃ : Bytes) (k : Known) (d e : ℕ) (l : length b ≡ 25) (f₁ : b₁ ≡ put b 0 (be_bytes 8 k.used.0)) (f₂ : b₂ ≡ put b₁ 8 (be_bytes 8 k.waits.0))
    (f₃ : b₃ ≡ put b₂ 16 (be_bytes 8 d)) (g : be_bytes 8 d ≡ be_bytes 8 (doubt_number k.doubt)) (h : e ≡ exact_byte k.exact) where
  abbrev one : Bytes
  one = be_bytes 8 k.used.0

  abbrev two : Bytes
  two = be_bytes 8 k.waits.0

  abbrev three : Bytes
  three = be_bytes 8 (doubt_number k.doubt)

  length_two : length (one ++ two) ≡ 16
  length_two = length-append one two ∙ omega (arith, length_digits 256 8 k.used.0, length_digits 256 8 k.waits.0)

  length_three : length (one ++ two ++ three) ≡ 24
  length_three = length-append (one ++ two) three ∙ omega (arith, length_two, length_digits 256 8 (doubt_number k.doubt))

  second : b₂ ≡ put b 0 (one ++ two)
  second =
      f₂ ∙ ap (λ (x : Bytes). put x 8 two) f₁
      ∙ put_next b 0 8 one two (omega (arith, length_digits 256 8 k.used.0)) (omega (arith, l, length_digits 256 8 k.used.0, length_digits 256 8 k.waits.0))

  third : b₃ ≡ put b 0 (one ++ two ++ three)
  third =
      f₃ ∙ ap₂ (λ (x y : Bytes). put x 16 y) second g
      ∙ put_next b 0 16 (one ++ two) three (omega (arith, length_two)) (omega (arith, l, length_two, length_digits 256 8 (doubt_number k.doubt)))

  length_third : length b₃ ≡ 25
  length_third = ap length third ∙ length-put b 0 (one ++ two ++ three) (omega (arith, l, length_three)) ∙ l

  pub known_written : set b₃ 24 e ≡ known_bytes k
  unfolding known_bytes
  known_written =
      put_one b₃ 24 e (omega (arith, length_third))
      ∙ ap₂ (λ (x : Bytes) (y : ℕ). put x 24 (y ∷ [])) third h
      ∙ put_next b 0 24 (one ++ two ++ three) (exact_byte k.exact ∷ []) (omega (arith, length_three)) (omega (arith, l, length_three))
      ∙ put_whole b (one ++ two ++ three ++ (exact_byte k.exact ∷ [])) (length-append (one ++ two ++ three) (exact_byte k.exact ∷ []) ∙ omega (arith, l, length_three))

  pub written-length : length (set b₃ 24 e) ≡ length b
  written-length = ap length known_written ∙ length-known k ∙ sym l

pub known_read : (s : Bytes) (u w n : ℕ) (d : Optional SectorNumber) → u ≡ be_number (take 8 (drop 0 s)) → w ≡ be_number (take 8 (drop 8 s)) → n ≡ be_number (take 8 (drop 16 s))
    → d ≡ doubt_by n → ◌≡◌ {A = Known} (record { used = record { 0 = u }; waits = record { 0 = w }; doubt = d; exact = eqb (get_or s 24 0) 1 }) (known_of s)
unfolding known_of
known_read s u w n d p q r z =
    let y : d ≡ doubt_by (be_number (take 8 (drop 16 s))) = z ∙ ap doubt_by r in
    λ i. record { used = record { 0 = p i }; waits = record { 0 = q i }; doubt = y i; exact = eqb (get_or s 24 0) 1 }
