use mathlib.Core.Path.{sym}
use lib.Seq.{length-take-le}
use Rattle.tree_examples.proofs.in_two_parts.Goals as goal

-- `tree_examples::in_two_parts` is safe and ends.
pub slice_bounds-read_parts-end : goal.slice_bounds-read_parts-end
slice_bounds-read_parts-end g c = sym (length-take-le 2560 c.args.log.now c.if-log-ge2560.true)

pub slice_bounds-walk_parts-end : goal.slice_bounds-walk_parts-end
slice_bounds-walk_parts-end g c = sym (length-take-le 2560 c.args.log.now c.if-log-ge2560.true)
