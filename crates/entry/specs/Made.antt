-- The 40 bytes of an entry that is written.
use Rattle.std.specs.Prelude.{◌∷◌, ◌++◌, ℕ, ◌+◌, ◌*◌, replicate}
use Rattle.buffer.specs.Bytes.{Bytes}
use Rattle.digits.specs.Number.{be_bytes}

-- an active data entry: gen 0, "flags 1 plus 4 times depth", pads 0
abbrev pub made_entry : ℕ → ℕ → ℕ → ℕ → Bytes → Bytes
made_entry psize dsize depth size score =
    replicate 4 0 ++ (be_bytes 2 psize ++ (be_bytes 2 dsize ++ (((1 + 4 * depth) ∷ replicate 5 0) ++ (be_bytes 6 size ++ score))))
