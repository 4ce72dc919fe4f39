-- Padding a block in the lent buffer whose front it is, over the same unit.
use Rattle.std.specs.Prelude.{Bool, cond, not, Result, Ok, Err, ◌&&◌, ◌++◌, ℕ, ◌-◌, ◌/◌, leb, length, take, drop, ⊤}
use Rattle.buffer.specs.Bytes.{Bytes}
use Rattle.kind.specs.Kind.{lawful}
use Rattle.refusal.specs.declared.Refusal.{Refusal}
use Rattle.refusal.specs.declared.Refusal.TheVariants.{BlockType, Pad}
use Rattle.cut.specs.Cut.{unit_of, repeat, whole_units}

-- "appends zero bytes or zero scores to a stated length, in the lent buffer whose front is the block; nothing past the target changes"
unfoldable pub padded : Bytes → Bytes → ℕ → ℕ → Bytes
padded u d len target = take len d ++ (repeat u ((target - len) / length u) ++ drop target d)

-- "pad target shorter than the block or past the lent buffer, or a pointer length not a multiple of 20" is refused with 22
unfoldable pub pad_allowed : Bytes → ℕ → ℕ → ℕ → Bool
pad_allowed u size len target = (leb len target && leb target size) && (whole_units u len && whole_units u target)

-- the whole outcome: the answer, and the buffer afterwards
pub record AfterPad : Type 0 where
  pub answer : Result ⊤ Refusal
  pub buffer : Bytes

abbrev pub after_pad : Result ⊤ Refusal → Bytes → AfterPad
after_pad a d = record { answer = a; buffer = d }

-- "Both test 9, then 22"; "no lent byte changed" by a refusal
unfoldable pub pad_of : ℕ → Bytes → ℕ → ℕ → AfterPad
pad_of kind d len target =
    cond (not (lawful kind)) (after_pad (Err BlockType) d)
    (cond (not (pad_allowed (unit_of kind) (length d) len target)) (after_pad (Err Pad) d)
    (after_pad (Ok tt) (padded (unit_of kind) d len target)))
