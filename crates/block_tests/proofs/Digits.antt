-- Hex digits in a sector: the number that the code reads off them.
use mathlib.Core.Path.{◌≡◌, refl, sym, ap, ◌∙◌}
use mathlib.Core.Bool.{Bool, true, false, cond}
use Rattle.std.specs.Prelude.{Some, None}
use Prim.Native.Nat.{ℕ, ◌+◌, ◌-◌}
use native.Mathlib.Omega.{arith}
use lib.ListN.{length, take, drop}
use lib.Seq.{drop-drop}
use Rattle.buffer.specs.Bytes.{Bytes}
use Rattle.sector.specs.Sector.{front_of, date_field, behind}
use Rattle.block.specs.Log.{at}
use Rattle.std.specs.Option.{unwrap_or}
use Rattle.hexadecimal.specs.Hex.{is_hex, hex_value, read_from, read_hex}
use Rattle.block_tests.specs.Number.{number_of}

pub value-number : (s : Bytes) → unwrap_or (read_hex s) 0 ≡ number_of s
unfolding number_of read_from
value-number s = go (is_hex s) (hex_value s)
  where
    go : (t : Bool) (v : ℕ) → unwrap_or (cond t (Some v) None) 0 ≡ cond t v 0
    go true v = refl
    go false v = refl

-- digits of the lines behind a front of k bytes
pub field_at : (s : Bytes) (k o w : ℕ) → k ≡ length (front_of (date_field s)) → take (k + o + w - (k + o)) (drop (k + o) s) ≡ take w (drop o (behind s))
field_at s k o w e =
    let z : k + o + w - (k + o) ≡ w = omega arith in
    ap (λ (m : ℕ). take m (drop (k + o) s)) z ∙ ap (λ (m : ℕ). take w (drop (m + o) s)) e ∙ sym (ap (take w) (drop-drop o (length (front_of (date_field s))) s))

-- the number of a field, read from sector n as s
pub digits-at : (log : Bytes) (n : ℕ) (s : Bytes) (k o w : ℕ) → s ≡ at log n → k ≡ length (front_of (date_field (at log n)))
    → number_of (take (k + o + w - (k + o)) (drop (k + o) s)) ≡ number_of (take w (drop o (behind (at log n))))
digits-at log n s k o w e f = ap (λ (x : Bytes). number_of (take (k + o + w - (k + o)) (drop (k + o) x))) e ∙ ap number_of (field_at (at log n) k o w f)
