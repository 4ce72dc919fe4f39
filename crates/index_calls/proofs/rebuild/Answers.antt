use Rattle.index_calls.proofs.HintLaws.{rebuilt_so}
use Rattle.index_calls.proofs.rebuild.Goals as goal

pub returns : goal.returns
returns c =
    rebuilt_so c.rebuild.result _ _ c.rebuilding_number.result c.rebuild.ensures c.rebuilding_number.ensures
