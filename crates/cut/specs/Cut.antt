-- Zero cutting, stated once over the unit: a zero byte, or for pointer types the zero score.
use Rattle.std.specs.Prelude.{Bool, cond, not, Result, Ok, Err, [], ◌∷◌, ◌++◌, ℕ, zero, suc, ◌*◌, ◌/◌, ◌%◌, eqb, length, take, drop}
use Rattle.buffer.specs.Bytes.{Bytes, same}
use Rattle.kind.specs.Kind.{lawful, is_pointer, zero_score}
use Rattle.refusal.specs.declared.Refusal.{Refusal}
use Rattle.refusal.specs.declared.Refusal.TheVariants.{BlockType, Pad}

-- "zero bytes; for pointer types .. zero scores": what is cut off and appended
abbrev pub zero_byte : Bytes
zero_byte = 0 ∷ []

unfoldable pub unit_of : ℕ → Bytes
unit_of kind = cond (is_pointer kind) zero_score zero_byte

-- k units laid end to end
unfoldable pub repeat : Bytes → ℕ → Bytes
repeat u zero = []
repeat u (suc k) = u ++ repeat u k

-- unit k of b
abbrev pub unit_at : Bytes → Bytes → ℕ → Bytes
unit_at u b k = take (length u) (drop (length u * k) b)

-- "the shortest beginning whose rest is all zero bytes; for pointer types, whose rest is all zero scores":
-- how many of the first k units of b are kept, sought from the back
unfoldable pub kept : Bytes → ℕ → Bytes → ℕ
kept u zero b = 0
kept u (suc k) b = cond (same (unit_at u b k) u) (kept u k b) (suc k)

-- the length of what is kept of b
unfoldable pub cut_length : Bytes → Bytes → ℕ
cut_length u b = length u * kept u (length b / length u) b

-- "a pointer length not a multiple of 20" is refused with 22; every length is whole zero bytes
unfoldable pub whole_units : Bytes → ℕ → Bool
whole_units u n = eqb (n % length u) 0

-- "Both test 9, then 22"
unfoldable pub cut_of : ℕ → Bytes → Result ℕ Refusal
cut_of kind b =
    cond (not (lawful kind)) (Err BlockType)
    (cond (not (whole_units (unit_of kind) (length b))) (Err Pad) (Ok (cut_length (unit_of kind) b)))
