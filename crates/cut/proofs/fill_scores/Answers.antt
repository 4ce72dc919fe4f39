use Prim.Native.Nat.{◌-◌}
use mathlib.Core.Path.{◌≡◌, ap}
use native.Mathlib.Omega.{arith}
use lib.ListN.{length}
use Rattle.kind.specs.Kind.{zero_score}
use Rattle.kind.proofs.ZeroScore.{length-zero-score}
use Rattle.cut.proofs.Turns.{Filling, filling, fill_room, fill_again, fill_all, whole_units_lem}
use Rattle.cut.proofs.fill_scores.Goals as goal

pub loop-at-init : goal.loop-at-init
loop-at-init c = (c.zero_score-z.ensures, filling zero_score c.args.d.now)

pub copy_at-requires : goal.copy_at-requires
copy_at-requires c = let args = c.args in
    let turn = c.loop-at in
    let given = c.requires in
    let a = args in
    let l = turn in
    let r = fill_room zero_score a.d.now l.d 20 l.at length-zero-score (omega arith) (whole_units_lem zero_score (length a.d.now) given) l.invariant.1 (omega (arith, l.invariant.1.same_length)) in
    omega (arith, r, length-zero-score, ap length l.invariant.0, l.invariant.1.same_length)

pub loop-at-preserved : goal.loop-at-preserved
loop-at-preserved c = let args = c.args in
    let copy_at = c.copy_at in
    let turn = c.loop-at in
    let given = c.requires in
    let a = args in
    let l = turn in (
      l.invariant.0,
      fill_again zero_score a.d.now l.d 20 l.at length-zero-score (omega arith) (whole_units_lem zero_score (length a.d.now) given) l.invariant.1 _ _ l.invariant.0 copy_at.ensures
          copy_at.auto.d (omega (arith, l.invariant.1.same_length)),
    )

pub returns : goal.returns
returns c =
    let l = c.loop-at in
    fill_all zero_score c.args.d.now l.d l.at l.invariant.1 (omega (arith, l.invariant.1.same_length))
