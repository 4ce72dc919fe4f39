-- What the pass over a text waits for, in the grammar's terms.
use Rattle.std.specs.Prelude.{◌≡◌, Bool, false, cond, Option, Some, None, List, [], ◌∷◌, ℕ, ◌-◌, eqb, replicate}
use Rattle.buffer.specs.Bytes.{Bytes}
use Rattle.utf8.specs.Grammar.{Range, range, tail, follows}
use Rattle.utf8.specs.declared.Due.{Due}

-- the second octet's range: "%xE0 %xA0-BF", "%xF0 %x90-BF"; "%xED %x80-9F", "%xF4 %x80-8F"; else UTF8-tail
unfoldable pub low_after : ℕ → ℕ
low_after b = cond (eqb b 0xE0) 0xA0 (cond (eqb b 0xF0) 0x90 0x80)

unfoldable pub high_after : ℕ → ℕ
high_after b = cond (eqb b 0xED) 0x9F (cond (eqb b 0xF4) 0x8F 0xBF)

abbrev pub wait : ℕ → ℕ → Option Due
wait k b = Some (record { left = k; low = low_after b; high = high_after b })

-- the ranges of the octets that are due
unfoldable pub due : Due → List Range
due d = cond (eqb d.left 0) [] (range d.low d.high ∷ replicate (d.left - 1) tail)

-- whether what is due, and then characters, are these
abbrev pub goes_on : Option Due → Bytes → Bool
goes_on (Some d) bs = follows (due d) bs
goes_on None bs = false

-- a is what is due after the octet b, where rs and then characters were due
abbrev pub Tells : Option Due → List Range → ℕ → Type 0
Tells a rs b = (bs : Bytes) → goes_on a bs ≡ follows rs (b ∷ bs)
