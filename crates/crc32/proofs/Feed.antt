-- Bytes fed one after another, and eight and sixteen at once. Assumes nothing.
use mathlib.Core.Path.{◌≡◌, refl, sym, ap, ap₂, ◌∙◌}
use mathlib.Core.List.{List, [], ◌∷◌}
use Prim.Native.Nat.{ℕ, zero, suc, ◌+◌, ◌-◌, ◌*◌, ◌<◌, ◌≤◌}
use native.Mathlib.Numerals.{add-one}
use native.Mathlib.Omega.{arith}
use lib.Bits.{bit_xor, xor_comm}
use lib.Dec.{lit<}
use lib.ListN.{length, take, drop, get_or, length-take, length-drop}
use lib.Seq.{drop-cons, drop-drop, drop-length, take_all, get_or-drop}
use Rattle.crc32_rule.specs.Crc32.{Bytes, bits, byte, feed}
use Rattle.crc32_rule.specs.Burst.{pack}
use Rattle.crc32_rule.proofs.Pack.{packed}

-- one byte more
pub turn : (s : List ℕ) (i c r e : ℕ) → i < length s → r ≡ byte c (get_or s i 0) → feed c (drop i s) ≡ e → feed r (drop (i + 1) s) ≡ e
turn s i c r e h p q = rw (p, add-one) (ap (feed c) (sym (drop-cons s i 0 h)) ∙ q)

-- none left
pub done : (s : List ℕ) (i c e : ℕ) → i ≤ length s → length s ≤ i → feed c (drop i s) ≡ e → c ≡ e
done s i c e h k q =
    let n : i ≡ length s = omega arith in
    sym (ap (feed c) (ap (λ (j : ℕ). drop j s) n ∙ drop-length s)) ∙ q

-- the first n and then the rest
pub feed-split : (n : ℕ) (x : List ℕ) (c : ℕ) → feed c x ≡ feed (feed c (take n x)) (drop n x)
feed-split zero x c = refl
feed-split (suc n) [] c = refl
feed-split (suc n) (b ∷ x) c = feed-split n x (byte c b)

pub in_two : (s : List ℕ) (n c r e : ℕ) → n ≤ length s → r ≡ feed c (take n s) → e ≡ feed r (take (length s - n) (drop n s)) → e ≡ feed c s
in_two s n c r e h p q =
    let l : length (drop n s) ≤ length s - n = simp length-drop (omega arith) in
    q ∙ ap (feed r) (take_all (length s - n) (drop n s) l) ∙ ap (λ (x : ℕ). feed x (drop n s)) p ∙ sym (feed-split n s c)

-- ---- eight and sixteen at once

bytes_take : (n : ℕ) (s : List ℕ) → Bytes s → Bytes (take n s)
bytes_take zero s h k = lit< tt
bytes_take (suc n) [] h k = lit< tt
bytes_take (suc n) (b ∷ s) h zero = h 0
bytes_take (suc n) (b ∷ s) h (suc k) = bytes_take n s (λ j. h (suc j)) k

pub eight-more : (s : List ℕ) (i c r v e : ℕ) → Bytes s → i + 8 ≤ length s → v ≡ pack (take 8 (drop i s)) → r ≡ bits 64 (bit_xor v c)
    → feed c (drop i s) ≡ e → feed r (drop (i + 8) s) ≡ e
eight-more s i c r v e h l p q z =
    let x = take 8 (drop i s) in
    let n : length x ≡ 8 = simp (length-take, length-drop) (omega arith) in
    let f : feed c x ≡ r =
    packed x c (bytes_take 8 (drop i s) (λ k. rw get_or-drop (h (i + k)))) ∙ ap₂ (λ (m w : ℕ). bits (m * 8) w) n (xor_comm c (pack x) ∙ ap (λ (w : ℕ). bit_xor w c) (sym p)) ∙ sym q in
    ap₂ feed (sym f) (sym (drop-drop 8 i s)) ∙ sym (feed-split 8 (drop i s) c) ∙ z

pub sixteen-more : (s : List ℕ) (i c r v u e : ℕ) → Bytes s → i + 16 ≤ length s → v ≡ pack (take 8 (drop i s)) → u ≡ pack (take 8 (drop (i + 8) s))
    → r ≡ bits 64 (bit_xor u (bits 64 (bit_xor v c))) → feed c (drop i s) ≡ e → feed r (drop (i + 16) s) ≡ e
sixteen-more s i c r v u e h l p q z f =
    let n : i + 16 ≡ i + 8 + 8 = omega arith in
    ap (λ (k : ℕ). feed r (drop k s)) n
    ∙ eight-more s (i + 8) (bits 64 (bit_xor v c)) r u e h (omega arith) q z (eight-more s i c (bits 64 (bit_xor v c)) v e h (omega arith) p refl f)
