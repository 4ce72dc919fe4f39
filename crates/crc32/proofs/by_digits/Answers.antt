use mathlib.Core.Path.{ap}
use Prim.Native.Nat.{ℕ, ◌*◌, ◌/◌}
use native.Mathlib.Omega.{arith}
use lib.Bits.{bit_xor}
use lib.ListN.{length, length-take}
use Rattle.crc32_rule.specs.Crc32.{all_ones, crc32_of}
use Rattle.crc32.proofs.Feed.{in_two}
use borrow.Author.Rules.{rules}
use Rattle.crc32.proofs.by_digits.Goals as goal

pub slice_bounds-sixteens-end : goal.slice_bounds-sixteens-end
slice_bounds-sixteens-end c = simp length-take (omega arith)

pub sixteens-r-requires : goal.sixteens-r-requires
sixteens-r-requires c = (search rules, search rules, simp length-take (omega arith))

pub returns : goal.returns
unfolding crc32_of
returns c =
    let s = c.args.s.now in
    ap (λ (x : ℕ). bit_xor x all_ones) (in_two s (length s / 16 * 16) all_ones _ _ (omega arith) c.sixteens-r.ensures c.rest.ensures)
