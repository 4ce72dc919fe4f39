use Rattle.index.proofs.Read.{names_other, names_same}
use Rattle.index.proofs.names.Goals as goal

pub returns-then-index-end : goal.returns-then-index-end
returns-then-index-end c =
    let a = c.args in
    names_other a.index.now a.p c.requires.0 a.score.now a.kind c.requires.1 c.if-index-end.true

pub returns : goal.returns
returns c =
    let a = c.args in
    names_same a.index.now a.p c.requires.0 a.score.now a.kind c.requires.1 _ c.if-index-end.false c.equal.ensures
