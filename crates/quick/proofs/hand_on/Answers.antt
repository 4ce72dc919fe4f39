use mathlib.Core.Path.{ap}
use Rattle.indexed.specs.Indexed.{Indexed}
use Rattle.known_request.specs.Quick.{knowing}
use Rattle.quick.proofs.hand_on.Goals as goal

pub returns : goal.returns
returns c =
    let serve = c.serve-answer in
    let a = c.args in
    ap (λ (x : Indexed). knowing a.known x) serve.ensures
