use Rattle.entry.proofs.Fields.{entry-fields}
use Rattle.entry.proofs.entry_at.Goals as goal

pub returns : goal.returns
returns c =
    let a = c.args in
    entry-fields a.s.now a.at c.number_at-flags.result c.number_at-psize.result c.number_at-dsize.result c.number_at-size.result
    c.is_clean-clean.result
    c.number_at-flags.ensures c.number_at-psize.ensures c.number_at-dsize.ensures c.number_at-size.ensures c.is_clean-clean.ensures
