use Prim.Native.Nat.{◌<◌}
use native.Mathlib.Omega.{arith}
use lib.ListN.{length}
use Rattle.digest_calls.proofs.Outcomes.{too_short, written}
use Rattle.digest_calls.proofs.sha1.Goals as goal

-- `digest_calls::sha1` meets its contract, by a law for each of its two returns. Assumes nothing.
pub returns-then-out-lt20 : goal.returns-then-out-lt20
returns-then-out-lt20 c =
    let out = c.args.out.now in
    let h : length out < 20 = omega arith in record { number = (too_short c.args.s.now out h).0; buffer = (too_short c.args.s.now out h).1 }

pub returns : goal.returns
returns c = record { number = (written c.args.s.now c.args.out.now c.sha1-digest.result _ c.if-out-lt20.false c.sha1-digest.ensures c.copy_at.ensures).0; buffer = (written c.args.s.now c.args.out.now c.sha1-digest.result _ c.if-out-lt20.false c.sha1-digest.ensures c.copy_at.ensures).1 }
