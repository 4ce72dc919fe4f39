-- The block of the worked example.
use Rattle.std.specs.Prelude.{[], ◌∷◌}
use Rattle.buffer.specs.Bytes.{Bytes}

-- `hello world`
abbrev pub hello : Bytes
hello = 104 ∷ 101 ∷ 108 ∷ 108 ∷ 111 ∷ 32 ∷ 119 ∷ 111 ∷ 114 ∷ 108 ∷ 100 ∷ []
