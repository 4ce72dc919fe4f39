use Prim.Native.Nat.{◌*◌, ◌/◌}
use native.Mathlib.Omega.{arith}
use lib.ListN.{length, length-take}
use Rattle.crc32.proofs.Feed.{in_two}
use borrow.Author.Rules.{rules}
use Rattle.crc32.proofs.rest.Goals as goal

pub slice_bounds-eights-end : goal.slice_bounds-eights-end
slice_bounds-eights-end c = simp length-take (omega arith)

pub eights-r-requires : goal.eights-r-requires
eights-r-requires c = (search rules, simp length-take (omega arith))

pub returns : goal.returns
returns c =
    let s = c.args.s.now in
    in_two s (length s / 8 * 8) _ _ _ (omega arith) c.eights-r.ensures c.singles.ensures
