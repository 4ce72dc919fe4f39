-- A label's bytes: their length, that they are bytes, and each field read back from a sector that has the label.
use mathlib.Core.Path.{◌≡◌, refl, sym, ap, ◌∙◌}
use mathlib.Core.Bool.{true, false}
use mathlib.Core.List.{List, [], ◌∷◌, ◌++◌, append_assoc}
use Prim.Native.Nat.{ℕ, ◌+◌, ◌≤◌}
use native.Mathlib.Omega.{arith}
use lib.ListN.{length, take, drop, length-append}
use lib.Seq.{take_at}
use Rattle.buffer.specs.Bytes.{Bytes, zeros}
use Rattle.buffer.proofs.Bytes.{small-append}
use Rattle.buffer.proofs.Parts.{part_within}
use Rattle.digits.specs.Number.{small}
use Rattle.hexadecimal.specs.Hex.{hex, hex_bytes}
use Rattle.hexadecimal.proofs.HexLaws.{hex_bytes-length, small-hex, small-hex_bytes}
use Rattle.sector.specs.Sector.{line, lines, label_lines, rec_name, part_name, of_name, type_name, size_name, score_name, label_of, score_digits}
use Rattle.sector.specs.declared.Label.{Label}

pub length_label : (l : Label) (score : Bytes) → length score ≡ 20 → length (label_of l score) ≡ 96
unfolding label_of hex
length_label l score h = omega (arith, length-append (hex_bytes score) (10 ∷ []), hex_bytes-length score, length-append (hex_bytes score ++ (10 ∷ [])) [])

small_line : (name v : Bytes) → small name ≡ true → small v ≡ true → small (line name v) ≡ true
small_line name v a b = small-append name (v ++ (10 ∷ [])) a (small-append v (10 ∷ []) b refl)

-- lines that are bytes
abbrev AllSmall : List Bytes → Type 0
AllSmall [] = Unit {0}
AllSmall (l ∷ ls) = (small l ≡ true) × AllSmall ls

small-lines : (ls : List Bytes) → AllSmall ls → small (lines ls) ≡ true
small-lines [] a = refl
small-lines (l ∷ ls) a = small-append l (lines ls) a.0 (small-lines ls a.1)

small-number : (name : Bytes) (w n : ℕ) → small name ≡ true → small (line name (hex w n)) ≡ true
small-number name w n a = small_line name (hex w n) a (small-hex w n)

pub small-label : (l : Label) (score : Bytes) → small (label_of l score) ≡ true
unfolding label_of
small-label l score = small-lines (label_lines l score) (
  small-number rec_name 8 l.first.0 refl,
  (
    small-number part_name 4 l.part refl,
    (
      small-number of_name 4 l.of refl,
      (
        small-number type_name 2 l.kind refl,
        (
          small-number size_name 4 l.size refl,
          (
            small_line score_name (hex_bytes score) refl (small-hex_bytes score),
            tt,
          ),
        ),
      ),
    ),
  ),
)

-- a label is not blank
pub label-marked : (l : Label) (score : Bytes) (x : Bytes) → zeros (label_of l score ++ x) ≡ false
unfolding label_of
label-marked l score x = refl

-- the digits of a sector that has the label
module _ (s : Bytes) (l : Label) (score : Bytes) (e : take 96 s ≡ label_of l score) where
  digits-at : (w o : ℕ) → o + w ≤ 96 → take w (drop o s) ≡ take w (drop o (label_of l score))
  digits-at w o h = sym (part_within w o 96 s h) ∙ ap (λ (x : Bytes). take w (drop o x)) e

  pub rec_digits : take 8 (drop 4 s) ≡ hex 8 l.first.0
  unfolding label_of hex
  rec_digits = digits-at 8 4 (omega arith)

  pub part_digits : take 4 (drop 18 s) ≡ hex 4 l.part
  unfolding label_of hex
  part_digits = digits-at 4 18 (omega arith)

  pub of-digits : take 4 (drop 26 s) ≡ hex 4 l.of
  unfolding label_of hex
  of-digits = digits-at 4 26 (omega arith)

  pub kind-digits : take 2 (drop 36 s) ≡ hex 2 l.kind
  unfolding label_of hex
  kind-digits = digits-at 2 36 (omega arith)

  pub size-digits : take 4 (drop 44 s) ≡ hex 4 l.size
  unfolding label_of hex
  size-digits = digits-at 4 44 (omega arith)

  pub score-digits : length score ≡ 20 → score_digits s ≡ hex_bytes score
  unfolding label_of hex
  score-digits h = digits-at 40 55 (omega arith) ∙ ap (take 40) (append_assoc (hex_bytes score) (10 ∷ []) []) ∙ take_at (hex_bytes score) (10 ∷ []) 40 (omega (arith, hex_bytes-length score))
