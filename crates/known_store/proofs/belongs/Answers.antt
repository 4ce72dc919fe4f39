use native.Mathlib.Omega.{arith}
use Rattle.known_store.proofs.Found.{too_long, too_many, belongs_clear, belongs-doubtful}
use Rattle.known_store.proofs.belongs.Goals as goal

-- `known_store::belongs` meets its contract.
pub returns-then-log-used : goal.returns-then-log-used
returns-then-log-used c =
    let a = c.args in
    too_long a.known a.log a.waiting c.if-log-used.true

pub returns-then-waiting-waits : goal.returns-then-waiting-waits
returns-then-waiting-waits c =
    let if1 = c.if-log-used in
    let a = c.args in
    too_many a.known a.log a.waiting (omega (arith, if1.false)) c.if-waiting-waits.true

pub returns-in_default : goal.returns-in_default
returns-in_default c =
    let if1 = c.if-log-used in
    let if2 = c.if-waiting-waits in
    let a = c.args in
    belongs_clear a.known a.log a.waiting (omega (arith, if1.false)) (omega (arith, if2.false)) c.in_default.is

pub returns : goal.returns
returns c =
    let if1 = c.if-log-used in
    let if2 = c.if-waiting-waits in
    let a = c.args in
    belongs-doubtful a.known a.log a.waiting (omega (arith, if1.false)) (omega (arith, if2.false)) _ c.in-Some.is
