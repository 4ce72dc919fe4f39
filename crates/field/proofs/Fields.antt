-- The cases of a field's end, one for each return of the code; a field ends within the message.
use mathlib.Core.Path.{◌≡◌, refl, sym, ap, ◌∙◌}
use mathlib.Core.Bool.{Bool, true, false, cond, ◌&&◌}
use Prim.Native.Nat.{ℕ, ◌+◌, ◌-◌, ◌≤◌, ◌<◌}
use native.Mathlib.Omega.{arith}
use lib.Dec.{leb}
use borrow.Author.Tests.{leb-true, le-leb, lt-leb}
use lib.ListN.{length, get_or, take, drop, length-drop}
use lib.Seq.{length-take-le}
use Rattle.std.specs.Prelude.{Option, Some, None}
use Rattle.bedrock.proofs.Choices.{and-true}
use Rattle.buffer.specs.Bytes.{Bytes}
use Rattle.digits.specs.Number.{be_number}
use Rattle.utf8.specs.Grammar.{well_formed_text}
use Rattle.field.specs.Field.{is_text, text_end, counted_end, bytes_end, hello_end}

-- ---- text

module _ (m : Bytes) (at : ℕ) (w : at ≤ length m) where
  pub text_no_count : length m - at < 2 → None ≡ text_end m at
  unfolding text_end
  text_no_count h = rw (lt-leb (at + 2) (length m) (omega arith))

  module _ (n : ℕ) (e : n ≡ be_number (take (at + 2 - at) (drop at m))) (h : 2 ≤ length m - at) where
    counted : be_number (take 2 (drop at m)) ≡ n
    counted = let k : at + 2 - at ≡ 2 = omega arith in sym (e ∙ ap (λ (w : ℕ). be_number (take w (drop at m))) k)

    pub text-past : length m - (at + 2) < n → None ≡ text_end m at
    unfolding text_end
    text-past k = rw (counted, le-leb (at + 2) (length m) (omega arith), lt-leb (at + 2 + n) (length m) (omega arith))

    module _ (k : n ≤ length m - (at + 2)) where
      size : length (take n (drop (at + 2) m)) ≡ n
      size = length-take-le n (drop (at + 2) m) (rw length-drop k)

      pub text-long : 1024 < n → None ≡ text_end m at
      unfolding text_end
      text-long l = rw (counted, le-leb (at + 2) (length m) (omega arith), le-leb (at + 2 + n) (length m) (omega arith), size, lt-leb n 1024 l)

      module _ (l : n ≤ 1024) (b : Bool) (z : b ≡ well_formed_text (take (at + 2 + n - (at + 2)) (drop (at + 2) m))) where
        told : text_end m at ≡ cond b (Some (at + 2 + n)) None
        unfolding text_end
        told =
            let d : at + 2 + n - (at + 2) ≡ n = omega arith in
            rw (counted, le-leb (at + 2) (length m) (omega arith), le-leb (at + 2 + n) (length m) (omega arith), size, le-leb n 1024 l, z, d)

        pub text-good : b ≡ true → Some (at + 2 + n) ≡ text_end m at
        text-good t = sym (told ∙ rw t)

        pub text-ill : b ≡ false → None ≡ text_end m at
        text-ill t = sym (told ∙ rw t)

-- ---- counted bytes

module _ (m : Bytes) (at : ℕ) (w : at ≤ length m) where
  pub counted_none : length m - at < 1 → None ≡ counted_end m at
  unfolding counted_end
  counted_none h = rw (lt-leb (at + 1) (length m) (omega arith))

  module _ (h : 1 ≤ length m - at) where
    pub counted-past : length m - (at + 1) < get_or m at 0 → None ≡ counted_end m at
    unfolding counted_end
    counted-past k = rw (le-leb (at + 1) (length m) (omega arith), lt-leb (at + 1 + get_or m at 0) (length m) (omega arith))

    pub counted-good : get_or m at 0 ≤ length m - (at + 1) → Some (at + 1 + get_or m at 0) ≡ counted_end m at
    unfolding counted_end
    counted-good k = rw (le-leb (at + 1) (length m) (omega arith), le-leb (at + 1 + get_or m at 0) (length m) (omega arith))

-- ---- hello

-- a field ends within the message
ends_within : (t : Bool) (n x l : ℕ) → (t ≡ true → n ≤ l) → cond t (Some n) None ≡ Some x → x ≤ l
ends_within true n x l f e = let q : n ≡ x = cc in rw (← q) (f refl)
ends_within false n x l f e = let z : ◌≡◌ {A = ℕ} 0 1 = cc in absurd (omega arith)

pub text-within : (m : Bytes) (at x : ℕ) → text_end m at ≡ Some x → x ≤ length m
unfolding text_end
text-within m at x =
    let n = be_number (take 2 (drop at m)) in
    ends_within _ (at + 2 + n) x (length m) λ t.
    leb-true _ _ (and-true _ _ (and-true (leb (at + 2) (length m)) (leb (at + 2 + n) (length m) && is_text (take n (drop (at + 2) m))) t).1).0

pub counted-within : (m : Bytes) (at x : ℕ) → counted_end m at ≡ Some x → x ≤ length m
unfolding counted_end
counted-within m at x =
    ends_within _ (at + 1 + get_or m at 0) x (length m) λ t.
    leb-true _ _ (and-true (leb (at + 1) (length m)) (leb (at + 1 + get_or m at 0) (length m)) t).1

module _ (m : Bytes) (a : ℕ) (va : text_end m 4 ≡ Some a) (b : ℕ) (ub : text_end m a ≡ Some b) where
  pub strength_none : length m - b < 1 → None ≡ hello_end m
  unfolding bytes_end
  strength_none h = rw (va, ub, lt-leb (b + 1) (length m) (omega (arith, text-within m a b ub)))

  module _ (h : 1 ≤ length m - b) where
    pub crypto_bad : counted_end m (b + 1) ≡ None → None ≡ hello_end m
    unfolding bytes_end
    crypto_bad e = rw (va, ub, le-leb (b + 1) (length m) (omega arith), e)

    pub codec_last : (d : ℕ) → counted_end m (b + 1) ≡ Some d → (r : Option ℕ) → r ≡ counted_end m d → r ≡ hello_end m
    unfolding bytes_end
    codec_last d e r q = rw (va, ub, le-leb (b + 1) (length m) (omega arith), e) q
