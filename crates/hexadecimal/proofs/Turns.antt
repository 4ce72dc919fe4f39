-- One turn of each loop over hex digits, and its end: what is left to do still makes the whole. Assumes nothing.
use mathlib.Core.Path.{◌≡◌, refl, sym, ap, ap₂, ◌∙◌}
use mathlib.Core.Bool.{Bool, true, false, ◌&&◌}
use mathlib.Core.List.{List, [], ◌∷◌, ◌++◌, append_assoc, append-nil}
use Prim.Native.Nat.{ℕ, zero, suc, ◌+◌, ◌*◌, ◌/◌, ◌%◌, ◌≤◌, ◌<◌}
use native.Mathlib.Numerals.{add-one}
use native.Mathlib.Omega.{arith}
use lib.Dec.{ltb}
use borrow.Author.Tests.{ltb-true, lt-ltb, le-ltb}
use lib.ListN.{length, get_or, take, drop, set, length-set, drop_of_length-le}
use lib.Seq.{drop-cons, take-suc-set, take_all, append_snoc}
use Rattle.bedrock.proofs.Choices.{and-true}
use Rattle.digits.specs.Number.{value_from}
use Rattle.std.specs.Prelude.{Some, None}
use Rattle.std.specs.List.{list_all}
use Rattle.hexadecimal.specs.Hex.{digit_char, char_digit, hex, is_hex, hex_value, read_from, hex_bytes, read_bytes, reading, read_hex_bytes}

-- ---- hex digits read, one a turn

module _ (s : List ℕ) (i : ℕ) (h : i < length s) where
  pub hex-bad : 15 < char_digit (get_or s i 0) → is_hex (drop i s) ≡ false
  hex-bad k = rw (drop-cons s i 0, le-ltb (char_digit (get_or s i 0)) 16 k)

  pub read-bad : (a : ℕ) → 15 < char_digit (get_or s i 0) → None ≡ read_from a (drop i s)
  unfolding read_from
  read-bad a k = rw (hex-bad k)

  pub read_turn : (a : ℕ) → char_digit (get_or s i 0) ≤ 15 → read_from (16 * a + char_digit (get_or s i 0)) (drop (i + 1) s) ≡ read_from a (drop i s)
  unfolding read_from value_from
  read_turn a k = rw (add-one, drop-cons s i 0, lt-ltb (char_digit (get_or s i 0)) 16 (omega arith))

pub read-end : (s : List ℕ) (a i : ℕ) → length s ≤ i → Some a ≡ read_from a (drop i s)
unfolding read_from value_from
read-end s a i h = rw drop_of_length-le

-- the test of each character, as one of all
pub hex-all : (s : List ℕ) → list_all (λ c. ltb (char_digit c) 16) s ≡ is_hex s
hex-all [] = refl
hex-all (c ∷ s) = ap (λ (t : Bool). ltb (char_digit c) 16 && t) (hex-all s)

-- all of s are hex digits, so each is
pub hex-at : (s : List ℕ) (k : ℕ) → is_hex s ≡ true → k < length s → char_digit (get_or s k 0) < 16
hex-at [] k e h = absurd (omega arith)
hex-at (c ∷ s) zero e h = ltb-true (char_digit c) 16 (and-true (ltb (char_digit c) 16) (is_hex s) e).0
hex-at (c ∷ s) (suc k) e h = hex-at s k (and-true (ltb (char_digit c) 16) (is_hex s) e).1 (omega arith)

-- ---- a place filled from its front

-- all of d is filled, and nothing of s is left
pub front-end : (F : List ℕ → List ℕ) → F [] ≡ [] → (d s e : List ℕ) (i j : ℕ) → length d ≤ i → length s ≤ j → take i d ++ F (drop j s) ≡ e → d ≡ e
front-end F none d s e i j h k q =
    sym (append-nil d) ∙ ap₂ ◌++◌ (sym (take_all i d h)) (sym none ∙ ap F (sym (drop_of_length-le s k))) ∙ q

-- two stores after what is there
take-two : (d : List ℕ) (j x y : ℕ) → suc j < length d → take (suc (suc j)) (set (set d j x) (suc j) y) ≡ take j d ++ (x ∷ y ∷ [])
take-two d j x y h =
    let k : suc j < length (set d j x) = rw length-set h in
    take-suc-set (set d j x) (suc j) y k
    ∙ ap (λ (l : List ℕ). l ++ (y ∷ [])) (take-suc-set d j x (omega arith))
    ∙ append_assoc (take j d) (x ∷ []) (y ∷ [])

-- the hex digits of one byte more
pub bytes_turn : (d b e : List ℕ) (i : ℕ) → length d ≡ 2 * length b → i < length b → get_or b i 0 < 256 → take (2 * i) d ++ hex_bytes (drop i b) ≡ e
    → take (2 * (i + 1)) (set (set d (2 * i) (digit_char (get_or b i 0 / 16))) (2 * i + 1) (digit_char (get_or b i 0 % 16))) ++ hex_bytes (drop (i + 1) b) ≡ e
unfolding hex_bytes hex
bytes_turn d b e i l h t q =
    let a = get_or b i 0 in
    let x = digit_char (a / 16) in
    let y = digit_char (a % 16) in
    let two : 2 * (i + 1) ≡ suc (suc (2 * i)) = omega arith in
    let high : a / 16 % 16 ≡ a / 16 = omega arith in
    let whole : hex 2 a ≡ x ∷ y ∷ [] = ap (λ (z : ℕ). digit_char z ∷ y ∷ []) high in
    rw (two, add-one (2 * i), take-two d (2 * i) x y (omega arith), add-one i)
    (append_assoc (take (2 * i) d) (x ∷ y ∷ []) (hex_bytes (drop (suc i) b))
    ∙ ap (λ (z : List ℕ). take (2 * i) d ++ (z ++ hex_bytes (drop (suc i) b))) (sym whole)
    ∙ ap (λ (z : List ℕ). take (2 * i) d ++ hex_bytes z) (sym (drop-cons b i 0 h))
    ∙ q)

-- the byte of two hex digits more
pub pairs_turn : (d s e : List ℕ) (i : ℕ) → length s ≡ 2 * length d → i < length d → take i d ++ read_bytes (drop (2 * i) s) ≡ e
    → take (i + 1) (set d i (16 * char_digit (get_or s (2 * i) 0) + char_digit (get_or s (2 * i + 1) 0))) ++ read_bytes (drop (2 * (i + 1)) s) ≡ e
unfolding read_bytes value_from
pairs_turn d s e i l h q =
    let x = get_or s (2 * i) 0 in
    let y = get_or s (suc (2 * i)) 0 in
    let v = 16 * char_digit x + char_digit y in
    let two : 2 * (i + 1) ≡ suc (suc (2 * i)) = omega arith in
    let rest = drop (suc (suc (2 * i))) s in
    let same : v ≡ hex_value (x ∷ y ∷ []) = omega arith in
    let split : drop (2 * i) s ≡ x ∷ y ∷ rest = drop-cons s (2 * i) 0 (omega arith) ∙ ap (λ (z : List ℕ). x ∷ z) (drop-cons s (suc (2 * i)) 0 (omega arith)) in
    rw (two, add-one (2 * i), add-one i, take-suc-set d i v h)
    (append_snoc (take i d) v (read_bytes rest)
    ∙ ap (λ (z : ℕ). take i d ++ (z ∷ read_bytes rest)) same
    ∙ ap (λ (z : List ℕ). take i d ++ read_bytes z) (sym split)
    ∙ q)

-- ---- a place read from hex digits, or left as it was

pub reading-bad : (s d : List ℕ) → is_hex s ≡ false → reading false d ≡ read_hex_bytes s d
unfolding read_hex_bytes
reading-bad s d e = rw e

pub reading-good : (s d x : List ℕ) → is_hex s ≡ true → x ≡ read_bytes s → reading true x ≡ read_hex_bytes s d
unfolding read_hex_bytes
reading-good s d x e q = rw (e, q)
