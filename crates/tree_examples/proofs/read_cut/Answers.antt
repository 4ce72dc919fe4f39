use mathlib.Core.Path.{sym}
use native.Mathlib.Omega.{arith}
use lib.Seq.{length-take-le}
use Rattle.tree_examples.proofs.read_cut.Goals as goal

pub slice_bounds-read_once-end : goal.slice_bounds-read_once-end
slice_bounds-read_once-end g c = sym (length-take-le _ _ (omega arith))
