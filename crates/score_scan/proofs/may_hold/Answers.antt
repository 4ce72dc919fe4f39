use Rattle.score_scan.proofs.Scan.{holds_dated, holds_plain}
use Rattle.score_scan.proofs.may_hold.Goals as goal

pub returns-then-equal : goal.returns-then-equal
returns-then-equal c =
    holds_dated (c.args.s.now) (c.args.digits.now) _ (c.equal.ensures) (c.if-equal.true)

pub returns : goal.returns
returns c = let a = c.args in
    let equal = c.equal in
    let if1 = c.if-equal in
    let given = c.requires in
    holds_plain a.s.now a.digits.now _ _ equal.ensures if1.false (c.equal-2.ensures) given.1
