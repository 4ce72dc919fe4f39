-- Sixteen bytes at once: their numbers go into the register, and each of their hexadecimal digits is divided by its own row of a table.
-- Assumes nothing.
use mathlib.Core.Path.{◌≡◌, refl, sym, ap, ap₂, ◌∙◌}
use mathlib.Core.List.{List, [], ◌∷◌}
use Prim.Native.Nat.{ℕ, suc, ◌+◌, ◌-◌, ◌*◌, ◌/◌, ◌%◌, ◌^◌, ◌<◌, ◌≤◌}
use native.Mathlib.Nat.{mod-lt, add-zero, add-suc}
use native.Mathlib.Omega.{arith}
use lib.Bits.{bit_xor, xor_shifted, xor_zero_r}
use lib.Pow.{split, shr-shr}
use lib.Dec.{lit<}
use lib.ListN.{length, get_or, take, drop}
use lib.Seq.{drop-cons}
use Rattle.crc32_rule.specs.Crc32.{bits, byte}
use Rattle.crc32_rule.specs.Burst.{pack}
use Rattle.crc32_tables.specs.Digits.{rows}
use Rattle.crc32_rule.proofs.Xor.{xor_assoc}
use Rattle.crc32_rule.proofs.Step.{bits_above}
use Rattle.crc32_rule.proofs.Pack.{bits_add}
use Rattle.crc32_rule.proofs.BitBurst.{bits_xor, bits-zero}
use Rattle.crc32_tables.proofs.Rows.{rows_at}

-- ---- a digit

-- what stands above the lowest digit is only shifted while the digit is divided, and the two then go on side by side
digit : (n x : ℕ) → bits (4 + n) x ≡ bit_xor (bits n (x / 16)) (bits (4 + n) (x % 16))
digit n x =
    let y = x % 16 in
    let s : bits 4 x ≡ bit_xor (x / 16) (bits 4 y) =
    ap (bits 4) (sym (xor_shifted (x / 16) 4 y (mod-lt x (lit< tt)) ∙ split x 4)) ∙ bits_above 4 (x / 16) y in
    bits_add 4 n x ∙ ap (bits n) s ∙ bits_xor n (x / 16) (bits 4 y) ∙ ap (bit_xor (bits n (x / 16))) (sym (bits_add 4 n y))

-- the digit j behind those above it, with n bits from the lowest digit on
digit_more : (n v j i r t : ℕ) → i ≡ j + 1 → 4 * i ≤ n → r ≡ bits (n - 4 * i) (v / 2 ^ (4 * i)) → t ≡ bits (n - 4 * j) (v / 2 ^ (4 * j) % 16)
    → bit_xor r t ≡ bits (n - 4 * j) (v / 2 ^ (4 * j))
digit_more n v j i r t q h p e =
    let x = v / 2 ^ (4 * j) in
    let a : n - 4 * j ≡ 4 + (n - 4 * i) = omega arith in
    let f : 4 * i ≡ 4 * j + 4 = omega arith in
    let g : v / 2 ^ (4 * i) ≡ x / 16 = ap (λ (k : ℕ). v / 2 ^ k) f ∙ sym (shr-shr v (4 * j) 4) in
    ap₂ bit_xor (p ∙ ap (bits (n - 4 * i)) g) (e ∙ ap (λ (k : ℕ). bits k (x % 16)) a)
    ∙ sym (digit (n - 4 * i) x)
    ∙ ap (λ (k : ℕ). bits k x) (sym a)

-- the digit below the place i by its row, beside the register c
pub digit_beside : (t : List ℕ) (b v i c r a : ℕ) → t ≡ rows b 16 → 0 < i → i ≤ 16 → a ≡ 16 * (i - 1) + v / 2 ^ (4 * (i - 1)) % 16
    → r ≡ bit_xor c (bits (b + 64 - 4 * i) (v / 2 ^ (4 * i))) → bit_xor r (get_or t a 0) ≡ bit_xor c (bits (b + 64 - 4 * (i - 1)) (v / 2 ^ (4 * (i - 1))))
digit_beside t b v i c r a e h u q p =
    let j = i - 1 in
    let d = v / 2 ^ (4 * j) % 16 in
    let above = bits (b + 64 - 4 * i) (v / 2 ^ (4 * i)) in
    let n : b + 4 * (16 - j) ≡ b + 64 - 4 * j = omega arith in
    ap (λ (x : ℕ). bit_xor x (get_or t a 0)) p
    ∙ xor_assoc c above (get_or t a 0)
    ∙ ap (bit_xor c) (digit_more (b + 64) v j i above (get_or t a 0) (omega arith) (omega arith) refl
    (ap₂ (λ (w : List ℕ) (k : ℕ). get_or w k 0) e q
    ∙ rows_at b 16 j d (omega arith) (mod-lt (v / 2 ^ (4 * j)) (lit< tt))
    ∙ ap (λ (k : ℕ). bits k d) n))

-- a byte by its two digits: what stands above them is only shifted
pub by_digits : (t : List ℕ) (c b : ℕ) → t ≡ rows 0 16
    → bit_xor (bit_xor c b / 256) (bit_xor (get_or t (240 + bit_xor c b / 16 % 16) 0) (get_or t (224 + bit_xor c b % 16) 0)) ≡ byte c b
unfolding byte bits
by_digits t c b e =
    let x = bit_xor c b in
    let high : get_or t (240 + x / 16 % 16) 0 ≡ bits 4 (x / 16 % 16) =
    ap (λ (w : List ℕ). get_or w (240 + x / 16 % 16) 0) e ∙ rows_at 0 16 15 (x / 16 % 16) (lit< tt) (mod-lt (x / 16) (lit< tt)) in
    let low : get_or t (224 + x % 16) 0 ≡ bits 8 (x % 16) = ap (λ (w : List ℕ). get_or w (224 + x % 16) 0) e ∙ rows_at 0 16 14 (x % 16) (lit< tt) (mod-lt x (lit< tt)) in
    let above : x / 256 ≡ x / 16 / 16 = omega arith in
    ap₂ bit_xor above (ap₂ bit_xor high low)
    ∙ sym (xor_assoc (x / 16 / 16) (bits 4 (x / 16 % 16)) (bits 8 (x % 16)))
    ∙ ap (λ (y : ℕ). bit_xor y (bits 8 (x % 16))) (sym (digit 0 (x / 16)))
    ∙ sym (digit 4 x)

-- before the first digit there is nothing beside it
pub none_beside : (n v c : ℕ) → v < 2 ^ 64 → c ≡ bit_xor c (bits n (v / 2 ^ 64))
none_beside n v c h =
    let e : v / 2 ^ 64 ≡ 0 = omega arith in
    sym (ap (λ (k : ℕ). bit_xor c (bits n k)) e ∙ ap (bit_xor c) (bits-zero n) ∙ xor_zero_r c)

-- eight bytes and then eight more: the first eight go through all the bits, side by side with the others
pub side_by_side : (a b r e : ℕ) → r ≡ bits 64 a → e ≡ bit_xor r (bits 128 b) → e ≡ bits 64 (bit_xor a (bits 64 b))
side_by_side a b r e p q = q ∙ ap₂ bit_xor p (bits_add 64 64 b) ∙ sym (bits_xor 64 a (bits 64 b))

-- ---- the number of eight bytes

drop_at : (s : List ℕ) (i k : ℕ) → i + k < length s → drop (i + k) s ≡ get_or s (i + k) 0 ∷ drop (i + suc k) s
drop_at s i k h = drop-cons s (i + k) 0 h ∙ ap (λ (n : ℕ). get_or s (i + k) 0 ∷ drop n s) (sym (add-suc i k))

first_four : (s : List ℕ) (i : ℕ) → i + 4 ≤ length s → drop i s ≡ get_or s i 0 ∷ get_or s (i + 1) 0 ∷ get_or s (i + 2) 0 ∷ get_or s (i + 3) 0 ∷ drop (i + 4) s
first_four s i h =
    let c : ℕ → List ℕ → List ℕ = λ k l. get_or s (i + k) 0 ∷ l in
    drop-cons s i 0 (omega arith)
    ∙ ap (λ (n : ℕ). get_or s i 0 ∷ drop n s) (sym (add-suc i 0 ∙ ap suc (add-zero i)))
    ∙ ap (λ (l : List ℕ). get_or s i 0 ∷ l) (drop_at s i 1 (omega arith) ∙ ap (c 1) (drop_at s i 2 (omega arith) ∙ ap (c 2) (drop_at s i 3 (omega arith))))

lower : (a b c d : ℕ) → ((d * 256 + c) * 256 + b) * 256 + a ≡ pack (a ∷ b ∷ c ∷ d ∷ [])
lower a b c d = omega arith

pub half_at : (s : List ℕ) (i : ℕ) → i + 4 ≤ length s
    → ((get_or s (i + 3) 0 * 256 + get_or s (i + 2) 0) * 256 + get_or s (i + 1) 0) * 256 + get_or s i 0 ≡ pack (take 4 (drop i s))
half_at s i h = lower (get_or s i 0) (get_or s (i + 1) 0) (get_or s (i + 2) 0) (get_or s (i + 3) 0) ∙ sym (ap (λ (l : List ℕ). pack (take 4 l)) (first_four s i h))

-- the first four bytes are the lower half
join : (a b c d r : ℕ) → r * 0x1_0000_0000 + pack (a ∷ b ∷ c ∷ d ∷ []) ≡ (((r * 256 + d) * 256 + c) * 256 + b) * 256 + a
join a b c d r = omega arith

pub number_at : (s : List ℕ) (i x y : ℕ) → i + 8 ≤ length s → x ≡ pack (take 4 (drop (i + 4) s)) → y ≡ pack (take 4 (drop i s))
    → x * 0x1_0000_0000 + y ≡ pack (take 8 (drop i s))
number_at s i x y h p q =
    let e = first_four s i (omega arith) in
    ap₂ (λ (m n : ℕ). m * 0x1_0000_0000 + n) p (q ∙ ap (λ (l : List ℕ). pack (take 4 l)) e)
    ∙ join (get_or s i 0) (get_or s (i + 1) 0) (get_or s (i + 2) 0) (get_or s (i + 3) 0) (pack (take 4 (drop (i + 4) s)))
    ∙ sym (ap (λ (l : List ℕ). pack (take 8 l)) e)
