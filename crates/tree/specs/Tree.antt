-- The hash tree of an entry: the blocks of a level, and the scores in a pointer block.
use Rattle.std.specs.Prelude.{cond, ℕ, ◌+◌, ◌*◌, leb, eqb, length, take, drop}
use Rattle.buffer.specs.Bytes.{Bytes}
use Rattle.kind.specs.Kind.{zero_score}
use Rattle.entry.specs.declared.Entry.{Entry}

-- "pointers of level 1 to 7 are 3 to 9": the type of the pointer blocks of a level
abbrev pub pointer_type : ℕ → ℕ
pointer_type level = 2 + level

-- "Level d is type 2+d, the leaf 13 or 2"
unfoldable pub type_at : Entry → ℕ → ℕ
type_at e level = cond (eqb level 0) (cond e.directory 2 13) (pointer_type level)

-- "Look-up count is psize for pointers, dsize for leaves"
unfoldable pub count_at : Entry → ℕ → ℕ
count_at e level = cond (eqb level 0) e.dsize e.psize

-- piece i of the pieces of w bytes each
abbrev pub piece : ℕ → ℕ → Bytes → Bytes
piece w i b = take w (drop (w * i) b)

-- "A pointer past the end of its block is the zero score"
unfoldable pub pointer : Bytes → ℕ → Bytes
pointer b i = cond (leb (length b) (20 * i)) zero_score (piece 20 i b)
