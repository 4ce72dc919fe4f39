-- What the tests before the tree show, and what is left where one refuses.
use mathlib.Core.Path.{◌≡◌, refl}
use mathlib.Core.Bool.{true}
use mathlib.Core.List.{[], ◌∷◌}
use Prim.Native.Nat.{ℕ, ◌<◌}
use Rattle.buffer.specs.Bytes.{Bytes}
use Rattle.refusal.specs.declared.Refusal.{Refusal}
use Rattle.entry.specs.declared.Entry.{Entry}
use Rattle.file.specs.File.{page_allowed}
use Rattle.leaf.specs.Fetch.{Open}
use Rattle.fill.specs.Fill.{FillOutcome, fill_outcome}
use Rattle.std.specs.Prelude.{Err}

-- further on in the file
pub open_on : (e : Entry) (offset o : ℕ) → Open e offset → o < e.size → Open e o
open_on e offset o p h = record {
  psize-from = p.psize-from;
  psize-to = p.psize-to;
  dsize-from = p.dsize-from;
  dsize-to = p.dsize-to;
  depth = p.depth;
  inside = h;
}

-- the page of one zero
pub zero-page : page_allowed (0 ∷ []) ≡ true
unfolding page_allowed
zero-page = refl

-- nothing written
abbrev pub nothing : Bytes → Refusal → FillOutcome
nothing d w = fill_outcome (record { count = 0; stop = Err w }) d
