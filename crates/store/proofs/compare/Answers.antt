use Rattle.store.proofs.Outcomes.{other_length, same_block, other_block}
use Rattle.store.proofs.compare.Goals as goal

-- `store::compare` meets its contract.
pub returns-then-b-data : goal.returns-then-b-data
returns-then-b-data c =
    λ L. other_length L _ (c.args.b) _ (c.requires.1.1) (c.if-b-data.true)

pub returns-then-same_bytes : goal.returns-then-same_bytes
returns-then-same_bytes c = let a = c.args in
    let given = c.requires in
    λ L. same_block L _ a.b _ given.1.1 _ (c.same_bytes.ensures) (c.if-same_bytes.true)

pub returns : goal.returns
returns c = let a = c.args in
    let given = c.requires in
    λ L. other_block L _ a.b _ given.1.1 _ (c.same_bytes.ensures) (c.if-same_bytes.false)
