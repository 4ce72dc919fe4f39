-- A sector as it is written: its length, that it fits, and its label and payload read back. Over any label's bytes.
use mathlib.Core.Path.{◌≡◌, refl, sym, ap, ap₂, ◌∙◌}
use mathlib.Core.Bool.{true}
use mathlib.Core.List.{[], ◌∷◌, ◌++◌, append_assoc}
use Prim.Native.Nat.{ℕ, ◌+◌, ◌-◌, ◌≤◌}
use native.Mathlib.Omega.{arith}
use lib.ListN.{length, take, drop, replicate, length-append, length-take, length-replicate, take-append-drop}
use lib.Seq.{take_at, drop_at}
use Rattle.buffer.specs.Bytes.{Bytes}
use Rattle.buffer.proofs.Bytes.{same_refl, small-append, small-take, small-replicate}
use Rattle.digits.specs.Number.{small}
use Rattle.hexadecimal.specs.Hex.{hex}
use Rattle.hexadecimal.proofs.HexLaws.{hex-length, small-hex}
use Rattle.crc32_rule.specs.Crc32.{crc32_of}
use Rattle.sector.specs.Sector.{check, fits, filled, encode}

pub length-check : (b : Bytes) → length (check b) ≡ 13
unfolding check
length-check b = simp (length-append, hex-length)

pub length-filled : (n : ℕ) (d : Bytes) → length (filled n d) ≡ n
unfolding filled
length-filled n d = simp (length-take, length-append, length-replicate) (omega arith)

pub small-filled : (n : ℕ) (d : Bytes) → small d ≡ true → small (filled n d) ≡ true
unfolding filled
small-filled n d h = small-take n (d ++ replicate n 0) (small-append d (replicate n 0) h (small-replicate n))

small-check : (b : Bytes) → small (check b) ≡ true
unfolding check
small-check b = small-append (hex 8 (crc32_of b)) (10 ∷ []) (small-hex 8 (crc32_of b)) refl

module _ (label d : Bytes) (h : length label ≤ 499) where
  length_body : length (label ++ filled (499 - length label) d) ≡ 499
  length_body = simp (length-append, length-filled) (omega arith)

  pub length-encode : length (encode label d) ≡ 512
  unfolding encode
  length-encode =
      let body : Bytes = label ++ filled (499 - length label) d in
      omega (arith, length-append body (check body), length_body, length-check body)

  pub encode-fits : fits (encode label d) ≡ true
  unfolding encode fits
  encode-fits =
      let body : Bytes = label ++ filled (499 - length label) d in
      rw (drop_at body (check body) 499 length_body, take_at body (check body) 499 length_body) (same_refl (check body))

  pub encode-label : take (length label) (encode label d) ≡ label
  unfolding encode
  encode-label =
      let f = filled (499 - length label) d in
      ap (take (length label)) (append_assoc label f (check (label ++ f))) ∙ take_at label (f ++ check (label ++ f)) (length label) refl

  pub encode-payload : take (499 - length label) (drop (length label) (encode label d)) ≡ filled (499 - length label) d
  unfolding encode
  encode-payload =
      let f = filled (499 - length label) d in
      ap (λ (x : Bytes). take (499 - length label) (drop (length label) x)) (append_assoc label f (check (label ++ f)))
      ∙ ap (take (499 - length label)) (drop_at label (f ++ check (label ++ f)) (length label) refl)
      ∙ take_at f (check (label ++ f)) (499 - length label) (length-filled (499 - length label) d)

  pub small-encode : small label ≡ true → small d ≡ true → small (encode label d) ≡ true
  unfolding encode
  small-encode a b =
      let body : Bytes = label ++ filled (499 - length label) d in
      small-append body (check body) (small-append label (filled (499 - length label) d) a (small-filled (499 - length label) d b)) (small-check body)

-- a sector of 512 bytes is made of its label, payload and check, if it fits
pub encode-whole : (s label d : Bytes) → drop 499 s ≡ check (take 499 s) → take 499 s ≡ label ++ filled (499 - length label) d → s ≡ encode label d
unfolding encode
encode-whole s label d e g = sym (take-append-drop 499 s) ∙ ap₂ ◌++◌ g (e ∙ ap check g)
