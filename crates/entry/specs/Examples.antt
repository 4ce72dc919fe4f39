-- The entries of the worked examples, and two more than the marked ones.
use Rattle.std.specs.Prelude.{◌≡◌, true, false, ℕ, replicate}
use Rattle.buffer.specs.Bytes.{Bytes}
use Rattle.entry.specs.Entry.{entry_allowed}
use Rattle.entry.specs.Made.{made_entry}

-- an active data entry whose score is twenty zero bytes
abbrev pub entry_bytes : ℕ → ℕ → ℕ → ℕ → Bytes
entry_bytes psize dsize depth size = made_entry psize dsize depth size (replicate 20 0)

-- p is psize over 20 rounded down: 79 makes 3, so 3,073 bytes are too many
abbrev pub RoundedDown : Type 0
RoundedDown = entry_allowed (entry_bytes 79 1024 1 3073) ≡ false

-- p 2,048, dsize 1,024, depth 7: the product is 2 ^ 87, of which 64 bits would keep 0
abbrev pub NoWrap : Type 0
NoWrap = entry_allowed (entry_bytes 40960 1024 7 1) ≡ true
