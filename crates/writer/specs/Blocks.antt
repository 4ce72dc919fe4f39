-- The blocks of a file: its leaves, and the pointer blocks above them. They do not depend on the log.
use Rattle.std.specs.Prelude.{cond, List, [], ◌∷◌, ◌++◌, ℕ, zero, suc, ◌+◌, ◌*◌, ◌/◌, eqb, length, take}
use Rattle.buffer.specs.Bytes.{Bytes}
use Rattle.sha1_digest.specs.Sha1.{sha1_of}
use Rattle.kind.specs.Kind.{zero_score}
use Rattle.block.specs.Block.{parts_of}
use Rattle.cut.specs.Cut.{unit_of, cut_length}
use Rattle.tree.specs.Tree.{piece, pointer_type}

-- the bytes of a block, and its type
pub record Typed : Type 0 where
  pub kind : ℕ
  pub bytes : Bytes

-- "every block cut first": the shortest beginning whose rest is all zero bytes, or all zero scores
unfoldable pub cut_block : ℕ → Bytes → Bytes
cut_block kind b = take (cut_length (unit_of kind) b) b

-- k blocks of a type, "each from the left": the pieces of w bytes of b from piece i on, cut
unfoldable pub blocks_from : ℕ → ℕ → Bytes → ℕ → ℕ → List Typed
blocks_from kind w b zero i = []
blocks_from kind w b (suc k) i = record { kind = kind; bytes = cut_block kind (piece w i b) } ∷ blocks_from kind w b k (suc i)

-- all of them: the last piece may be shorter, and of no bytes there is none
abbrev pub level : ℕ → ℕ → Bytes → List Typed
level kind w b = blocks_from kind w b (parts_of w (length b)) 0

-- their scores, laid end to end. "An empty one has the zero score": that is SHA-1 of no bytes
unfoldable pub scores_of : List Typed → Bytes
scores_of [] = []
scores_of (x ∷ xs) = sha1_of x.bytes ++ scores_of xs

-- "data leaves"
abbrev pub leaves : ℕ → Bytes → List Typed
leaves dsize slice = level 13 dsize slice

-- "pointer levels upward": the scores of level k over the leaves' scores s, where w bytes of scores make a pointer block. "pointers of level 1 to 7 are 3 to 9"
unfoldable pub scores_at : ℕ → Bytes → ℕ → Bytes
scores_at w s zero = s
scores_at w s (suc k) = scores_of (level (pointer_type (suc k)) w (scores_at w s k))

-- the pointer blocks of level 1 to k
unfoldable pub pointer_blocks : ℕ → Bytes → ℕ → List Typed
pointer_blocks w s zero = []
pointer_blocks w s (suc k) = pointer_blocks w s k ++ level (pointer_type (suc k)) w (scores_at w s k)

-- a pointer block has p scores, "p being psize over 20 rounded down": so many bytes
abbrev pub width_of : ℕ → ℕ
width_of psize = 20 * (psize / 20)

-- "data leaves, then pointer levels upward, each from the left"
unfoldable pub file_blocks : Bytes → ℕ → ℕ → ℕ → List Typed
file_blocks slice dsize psize depth = leaves dsize slice ++ pointer_blocks (width_of psize) (scores_of (leaves dsize slice)) depth

-- the first of the scores: that of the one top block. The empty slice has no block, and "the zero score"
unfoldable pub top_of : Bytes → Bytes
top_of s = cond (eqb (length s) 0) zero_score (take 20 s)

unfoldable pub top_score : Bytes → ℕ → ℕ → ℕ → Bytes
top_score slice dsize psize depth = top_of (scores_at (width_of psize) (scores_of (leaves dsize slice)) depth)
