-- The bound on the calls of a comparison.
use Rattle.std.specs.Prelude.{◌≡◌, ℕ, ◌<◌}
use Rattle.buffer.specs.Bytes.{Bytes}
use Rattle.entry.specs.declared.Entry.{Entry}
use Rattle.comparison.specs.Compare.{compare_blocks}

-- the bound on calls changes nothing where it is more than what is left, and the comparison's is
abbrev pub Enough : Type 0
Enough = (f g : ℕ) (log : Bytes) (e : Entry) (level nest : ℕ) (s t : Bytes) (left : ℕ) → left < f → left < g
    → compare_blocks f log e level nest s t left ≡ compare_blocks g log e level nest s t left
