use mathlib.Core.Path.{◌≡◌, refl, sym, ap, ◌∙◌}
use native.Mathlib.Omega.{arith}
use lib.ListN.{length}
use Rattle.sector_log.specs.declared.Stored.{Stored}
use Rattle.sector_log.specs.Parts.{beside}
use Rattle.request.specs.Step.{written}
use Rattle.answer.proofs.Returns.{outcome, kept}
use borrow.Author.Rules.{rules}
use borrow.Enum.Refused.{opened}
use Rattle.answer.proofs.answer_store.Goals as goal
use Rattle.std.specs.Prelude.{Result}
use Rattle.refusal.specs.declared.Refusal.{Refusal}

pub returns-in-Err : goal.returns-in-Err
returns-in-Err c = λ log w.
    let a = c.args in
    c.refuse.ensures log w
    ∙ ap (λ (s : Result Stored Refusal). written s a.tag a.receipt.score (beside log w) a.reply.now) (sym c.in-Err.is)

pub write_reply-requires : goal.write_reply-requires
write_reply-requires c =
    let l : length (c.args.receipt.score) ≡ 20 = search rules in
    (omega (arith, l, c.requires), omega arith)

pub returns : goal.returns
returns c = λ log w.
    let a = c.args in
    outcome _ _ _ log w _ _ refl c.write_reply.ensures
    ∙ kept a.receipt.stored _ _ _ (beside log w) _ c.in_default.is
