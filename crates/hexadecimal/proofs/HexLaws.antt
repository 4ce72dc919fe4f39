-- Hex digits: what is written reads back, and reading succeeds exactly on what writing makes. Assumes nothing.
use mathlib.Core.Path.{◌≡◌, refl, sym, ap, ap₂, ◌∙◌}
use mathlib.Core.Bool.{Bool, true, false}
use mathlib.Core.List.{List, [], ◌∷◌, ◌++◌, map, map-append}
use Prim.Native.Nat.{ℕ, zero, suc, ◌+◌, ◌-◌, ◌*◌, ◌/◌, ◌%◌, ◌^◌, ◌<◌}
use native.Mathlib.Omega.{arith}
use lib.Dec.{ltb}
use borrow.Author.Tests.{ltb-true, ltb-false, lt-ltb, le-ltb}
use lib.ListN.{length, length-append, length-map}
use Rattle.bedrock.proofs.Choices.{and-true, cond_ind}
use Rattle.digits.specs.Number.{digits, value_from, Below, below, small}
use Rattle.std.specs.Prelude.{Some, None}
use Rattle.hexadecimal.specs.Hex.{digit_char, char_digit, hex, is_hex, hex_value, read_from, read_hex, hex_bytes, read_bytes, reading, read_hex_bytes}
use Rattle.digits.proofs.NumberLaws.{below_fact, below-append, below-take, below-drop, below-map, length_digits, below-digits, value-digits, digits_value, value_lt}
use Rattle.hexadecimal.specs.Promises.{ValueOfHex, HexOfValue}

-- ---- one digit

pub char_digit-digit_char : (d : ℕ) → d < 16 → char_digit (digit_char d) ≡ d
unfolding digit_char char_digit
char_digit-digit_char d h =
    cond_ind (λ (c : ℕ). char_digit c ≡ d) (ltb d 10) (48 + d) (87 + d)
    (λ p. rw (lt-ltb (48 + d) 58 (omega (arith, ltb-true d 10 p)), le-ltb (48 + d) 48 (omega arith)) (omega arith))
    (λ p. rw (le-ltb (87 + d) 58 (omega arith), le-ltb (87 + d) 97 (omega (arith, ltb-false d 10 p)), lt-ltb (87 + d) 103 (omega arith)) (omega arith))

pub digit_char-char_digit : (c : ℕ) → char_digit c < 16 → digit_char (char_digit c) ≡ c
unfolding digit_char char_digit
digit_char-char_digit c =
    cond_ind Back (ltb c 58) _ _
    (λ p. cond_ind Back (ltb c 48) _ _
    (λ _ h. absurd (omega arith))
    (λ q h. rw (lt-ltb (c - 48) 10 (omega (arith, ltb-true c 58 p))) (omega (arith, ltb-false c 48 q))))
    (λ _. cond_ind Back (ltb c 97) _ _
    (λ _ h. absurd (omega arith))
    (λ q. cond_ind Back (ltb c 103) _ _
    (λ _ h. rw (le-ltb (c - 87) 10 (omega (arith, ltb-false c 97 q))) (omega (arith, ltb-false c 97 q)))
    (λ _ h. absurd (omega arith))))
  where
    Back : ℕ → Type 0
    Back k = k < 16 → digit_char k ≡ c

pub digit_char_lt : (d : ℕ) → d < 16 → digit_char d < 256
unfolding digit_char
digit_char_lt d h = cond_ind (λ (c : ℕ). c < 256) (ltb d 10) (48 + d) (87 + d) (λ _. omega arith) (λ _. omega arith)

pub small-digit_char : (n : ℕ) → ltb (digit_char (n % 16)) 256 ≡ true
small-digit_char n = lt-ltb (digit_char (n % 16)) 256 (digit_char_lt (n % 16) (omega arith))

-- ---- numbers

pub hex-digits : (w n : ℕ) → hex w n ≡ map digit_char (digits 16 w n)
unfolding hex digits
hex-digits zero n = refl
hex-digits (suc w) n =
    ap (λ (x : List ℕ). x ++ (digit_char (n % 16) ∷ [])) (hex-digits w (n / 16)) ∙ sym (map-append digit_char (digits 16 w (n / 16)) (n % 16 ∷ []))

-- the digits of characters of digits, and back
there : (s : List ℕ) → below 16 s ≡ true → map char_digit (map digit_char s) ≡ s
there [] e = refl
there (d ∷ s) e = let p = and-true (ltb d 16) (below 16 s) e in ap₂ ◌∷◌ (char_digit-digit_char d (ltb-true d 16 p.0)) (there s p.1)

back : (s : List ℕ) → is_hex s ≡ true → map digit_char (map char_digit s) ≡ s
back [] e = refl
back (c ∷ s) e = let p = and-true (ltb (char_digit c) 16) (is_hex s) e in ap₂ ◌∷◌ (digit_char-char_digit c (ltb-true (char_digit c) 16 p.0)) (back s p.1)

digits-hex : (w n : ℕ) → map char_digit (hex w n) ≡ digits 16 w n
digits-hex w n = ap (map char_digit) (hex-digits w n) ∙ there (digits 16 w n) (below-digits 16 w n (omega arith))

pub hex-length : (w n : ℕ) → length (hex w n) ≡ w
hex-length w n = ap length (hex-digits w n) ∙ length-map (digits 16 w n) digit_char ∙ length_digits 16 w n

pub is_hex-hex : (w n : ℕ) → is_hex (hex w n) ≡ true
is_hex-hex w n = ap (below 16) (digits-hex w n) ∙ below-digits 16 w n (omega arith)

pub hex_value-hex : ValueOfHex
hex_value-hex w n h = ap (value_from 16 0) (digits-hex w n) ∙ value-digits 16 w n h

pub hex-hex_value : HexOfValue
hex-hex_value s e =
    hex-digits (length s) (hex_value s)
    ∙ ap (λ (w : ℕ). map digit_char (digits 16 w (hex_value s))) (sym (length-map s char_digit))
    ∙ ap (map digit_char) (digits_value 16 (map char_digit s) (below_fact 16 (map char_digit s) (omega arith) e))
    ∙ back s e

pub hex_injective : (w n m : ℕ) → n < 16 ^ w → m < 16 ^ w → hex w n ≡ hex w m → n ≡ m
hex_injective w n m h k e = sym (hex_value-hex w n h) ∙ ap hex_value e ∙ hex_value-hex w m k

-- reading succeeds exactly on what writing makes
pub read_hex-hex : (w n : ℕ) → n < 16 ^ w → read_hex (hex w n) ≡ Some n
unfolding read_from
read_hex-hex w n h = rw (is_hex-hex w n, hex_value-hex w n h)

pub hex-read_hex : (s : List ℕ) (n : ℕ) → read_hex s ≡ Some n → hex (length s) n ≡ s
unfolding read_from
hex-read_hex s n e = go (is_hex s) refl
  where
    go : (t : Bool) → is_hex s ≡ t → hex (length s) n ≡ s
    go true q = let v : hex_value s ≡ n = cc (rw q at e) in ap (hex (length s)) (sym v) ∙ hex-hex_value s q
    go false q = let f : None ≡ Some n = rw q at e in let z : ◌≡◌ {A = ℕ} 0 1 = cc in absurd (omega arith)

pub hex_value_lt : (s : List ℕ) → is_hex s ≡ true → hex_value s < 16 ^ length s
hex_value_lt s e = rw (length-map s char_digit) at (value_lt 16 (map char_digit s) (below_fact 16 (map char_digit s) (omega arith) e))

pub small-hex : (w n : ℕ) → small (hex w n) ≡ true
small-hex w n = ap small (hex-digits w n) ∙ below-map 16 256 digit_char digit_char_lt (digits 16 w n) (below-digits 16 w n (omega arith))

pub hex_lt : (w n : ℕ) → Below 256 (hex w n)
hex_lt w n = below_fact 256 (hex w n) (omega arith) (small-hex w n)

-- ---- bytes

pub hex_bytes-length : (x : List ℕ) → length (hex_bytes x) ≡ 2 * length x
unfolding hex_bytes
hex_bytes-length [] = refl
hex_bytes-length (a ∷ x) = omega (arith, length-append (hex 2 a) (hex_bytes x), hex-length 2 a, hex_bytes-length x)

pub small-hex_bytes : (x : List ℕ) → small (hex_bytes x) ≡ true
unfolding hex_bytes
small-hex_bytes [] = refl
small-hex_bytes (a ∷ x) = below-append 256 (hex 2 a) (hex_bytes x) (small-hex 2 a) (small-hex_bytes x)

pub hex_bytes_lt : (x : List ℕ) → Below 256 (hex_bytes x)
hex_bytes_lt x = below_fact 256 (hex_bytes x) (omega arith) (small-hex_bytes x)

pub is_hex-hex_bytes : (x : List ℕ) → is_hex (hex_bytes x) ≡ true
unfolding hex_bytes
is_hex-hex_bytes [] = refl
is_hex-hex_bytes (a ∷ x) =
    ap (below 16) (map-append char_digit (hex 2 a) (hex_bytes x))
    ∙ below-append 16 (map char_digit (hex 2 a)) (map char_digit (hex_bytes x)) (is_hex-hex 2 a) (is_hex-hex_bytes x)

pub read_bytes-hex_bytes : (x : List ℕ) → Below 256 x → read_bytes (hex_bytes x) ≡ x
unfolding hex_bytes read_bytes hex
read_bytes-hex_bytes [] h = refl
read_bytes-hex_bytes (a ∷ x) h = ap₂ ◌∷◌ (hex_value-hex 2 a (h 0)) (read_bytes-hex_bytes x (λ k. h (suc k)))

pub read_hex_bytes-hex_bytes : (x d : List ℕ) → Below 256 x → read_hex_bytes (hex_bytes x) d ≡ reading true x
unfolding read_hex_bytes
read_hex_bytes-hex_bytes x d h = rw (is_hex-hex_bytes x, read_bytes-hex_bytes x h)

pub hex_bytes_injective : (x y : List ℕ) → Below 256 x → Below 256 y → hex_bytes x ≡ hex_bytes y → x ≡ y
hex_bytes_injective x y h k e = sym (read_bytes-hex_bytes x h) ∙ ap read_bytes e ∙ read_bytes-hex_bytes y k

pub hex_bytes-read_bytes : (n : ℕ) (s : List ℕ) → length s ≡ 2 * n → is_hex s ≡ true → hex_bytes (read_bytes s) ≡ s
unfolding hex_bytes read_bytes
hex_bytes-read_bytes n [] l e = refl
hex_bytes-read_bytes n (a ∷ []) l e = absurd (omega arith)
hex_bytes-read_bytes n (a ∷ (b ∷ s)) l e =
    let d = map char_digit (a ∷ b ∷ s) in
    ap₂ ◌++◌ (hex-hex_value (a ∷ b ∷ []) (below-take 16 2 d e)) (hex_bytes-read_bytes (n - 1) s (omega arith) (below-drop 16 2 d e))
