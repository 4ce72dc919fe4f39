use mathlib.Core.Path.{sym, ◌∙◌}
use Prim.Native.Nat.{◌+◌}
use Rattle.known.specs.Known.{listed}
use borrow.Author.Tests.{not-true, not-false}
use Rattle.bedrock.proofs.Choices.{and-first_holds, and-first_fails}
use Rattle.known_store.proofs.still_exact.Goals as goal

-- `known_store::still_exact` meets its contract.
pub returns-then-not-known : goal.returns-then-not-known
returns-then-not-known c =
    let a = c.args in
    let k = a.known in
    sym (and-first_fails k.exact (listed a.index.now a.score.now a.kind (k.used.0 + k.waits.0)) (not-true k.exact c.if-not-known.true))

pub returns : goal.returns
returns c = let args = c.args in
    let if1 = c.if-not-known in
    let a = args in
    let k = a.known in
    c.lists.ensures ∙ sym (and-first_holds k.exact (listed a.index.now a.score.now a.kind (k.used.0 + k.waits.0)) (not-false k.exact if1.false))
