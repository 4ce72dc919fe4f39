-- What opening a pair of blocks gives, by the definition of a comparison.
use Rattle.std.specs.Prelude.{◌≡◌, ℕ, ◌-◌, ◌≤◌, ◌<◌}
use Rattle.buffer.specs.Bytes.{Bytes}
use Rattle.block.specs.Log.{bytes_of}
use Rattle.entry.specs.declared.Entry.{Entry}
use Rattle.comparison.specs.declared.Compared.{Compared}
use Rattle.comparison.specs.Compared.{one_unit}
use Rattle.comparison.specs.Compare.{compare_blocks, compare_below}
use Rattle.open_pair.specs.Lies.{Lies}
use Rattle.open_pair.specs.declared.Pair.{Pair}
use Rattle.open_pair.specs.declared.Pair.TheVariants.{Ended, Both}

-- v is what the blocks of two entries give, by every bound on the calls that is enough
abbrev pub OfBlocks : Bytes → Entry → ℕ → ℕ → Bytes → Bytes → ℕ → Compared → Type 0
OfBlocks log e level nest s t left v = (f : ℕ) → left < f → v ≡ compare_blocks f log e level nest s t left

-- what the pair gives; or its two blocks lie before sector `end`, and what they give is one unit more than what is below them
abbrev pub Opens : Bytes → ℕ → Entry → ℕ → ℕ → Bytes → Bytes → ℕ → Pair → Type 0
Opens log end e level nest s t left (Ended v) = OfBlocks log e level nest s t left v
Opens log end e level nest s t left (Both b c) =
    Lies level b end × Lies level c end × (nest ≤ 16) × (0 < left)
    × ((v : Compared) → ((f : ℕ) → left - 1 < f → v ≡ compare_below f log e level nest (bytes_of log b) (bytes_of log c) (left - 1)) → OfBlocks log e level nest s t left (one_unit v))
