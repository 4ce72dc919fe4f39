-- The burst theorem by positions: two messages that differ, and only within four neighbouring bytes, have different checksums.
-- Assumes nothing.
use mathlib.Core.Path.{◌≡◌, sym, ap, ap₂, ◌∙◌}
use mathlib.Core.List.{List, [], ◌∷◌}
use Prim.Native.Nat.{ℕ, zero, suc, ◌+◌, ◌*◌, ◌^◌, ◌<◌, ◌≤◌}
use native.Mathlib.Nat.{add-zero, zero-mul, mul-one, mul_assoc}
use native.Mathlib.Omega.{arith}
use lib.Pow.{pow-add, pow_pos}
use lib.Bits.{bit_xor, xor_self, xor_lt, xor_block}
use lib.Dec.{lit<}
use lib.ListN.{length, get_or, drop, length-drop}
use lib.Seq.{ext_get_or, get_or-drop}
use Rattle.crc32_rule.specs.Crc32.{Bytes}
use Rattle.crc32_rule.specs.Burst.{pack}
use Rattle.crc32_rule.proofs.BitBurst.{bit-burst}
use Rattle.crc32_rule.specs.Shows.{BytesShow}

eight : (n : ℕ) → 2 ^ (suc n * 8) ≡ 2 ^ (n * 8) * 256
eight n = let e : suc n * 8 ≡ n * 8 + 8 = omega arith in ap (λ (k : ℕ). 2 ^ k) e ∙ pow-add 2 (n * 8) 8

-- messages that differ only in the first w bytes differ by a number of w bytes
front : (w : ℕ) (a b : List ℕ) → Bytes a → Bytes b → length a ≡ length b
    → ((k : ℕ) → w ≤ k → get_or a k 0 ≡ get_or b k 0) → bit_xor (pack a) (pack b) < 2 ^ (w * 8)
front zero a b ha hb l same =
    let e : a ≡ b = ext_get_or 0 a b l (λ k h. same k (omega arith)) in
    rw (e, xor_self) (lit< tt)
front (suc w) [] [] ha hb l same = pow_pos (suc w * 8)
front (suc w) [] (y ∷ b) ha hb l same = absurd (omega arith)
front (suc w) (x ∷ a) [] ha hb l same = absurd (omega arith)
front (suc w) (x ∷ a) (y ∷ b) ha hb l same =
    let ih : bit_xor (pack a) (pack b) < 2 ^ (w * 8) =
    front w a b (λ k. ha (suc k)) (λ k. hb (suc k)) (omega arith) (λ k h. same (suc k) (omega arith)) in
    rw (xor_block 8 (pack a) (pack b) x y (ha 0) (hb 0), eight w) (omega (arith, xor_lt 8 x y (ha 0) (hb 0)))

-- the first i bytes, where they agree, only shift what the others differ by
shift : (i : ℕ) (a b : List ℕ) → Bytes a → Bytes b → length a ≡ length b
    → ((k : ℕ) → k < i → get_or a k 0 ≡ get_or b k 0)
    → bit_xor (pack a) (pack b) ≡ bit_xor (pack (drop i a)) (pack (drop i b)) * 2 ^ (i * 8)
shift zero a b ha hb l same = sym (mul-one (bit_xor (pack a) (pack b)))
shift (suc i) [] [] ha hb l same = sym (zero-mul (2 ^ (suc i * 8)))
shift (suc i) [] (y ∷ b) ha hb l same = absurd (omega arith)
shift (suc i) (x ∷ a) [] ha hb l same = absurd (omega arith)
shift (suc i) (x ∷ a) (y ∷ b) ha hb l same =
    let p = bit_xor (pack (drop i a)) (pack (drop i b)) in
    let z : bit_xor x y ≡ 0 = ap (bit_xor x) (sym (same 0 (omega arith))) ∙ xor_self x in
    let ih = shift i a b (λ k. ha (suc k)) (λ k. hb (suc k)) (omega arith) (λ k h. same (suc k) (omega arith)) in
    xor_block 8 (pack a) (pack b) x y (ha 0) (hb 0)
    ∙ ap₂ (λ (m n : ℕ). m * 256 + n) ih z
    ∙ add-zero (p * 2 ^ (i * 8) * 256)
    ∙ mul_assoc p (2 ^ (i * 8)) 256
    ∙ ap (λ (m : ℕ). p * m) (sym (eight i))

pub burst-at : BytesShow
burst-at a b ha hb d =
    bit-burst a b ha hb
    (record {
      from = i * 8;
      pattern = bit_xor (pack (drop i a)) (pack (drop i b));
      same_length = l;
      short = front 4 (drop i a) (drop i b) (bytes a ha) (bytes b hb) (simp (length-drop, l)) (λ k h. simp get_or-drop (d.behind (i + k) (omega arith)));
      differ = shift i a b ha hb l d.before;
    })
  where
    i : ℕ
    i = d.from

    l : length a ≡ length b
    l = d.same_length

    bytes : (s : List ℕ) → Bytes s → Bytes (drop i s)
    bytes s h k = rw get_or-drop (h (i + k))
