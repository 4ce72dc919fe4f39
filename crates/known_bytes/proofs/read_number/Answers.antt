use mathlib.Core.Path.{◌∙◌}
use Rattle.known_bytes.proofs.Numbers.{number_read}
use Rattle.known_bytes.proofs.read_number.Goals as goal

pub returns : goal.returns
returns c =
    let be-number = c.be_number in
    let a = c.args in
    be-number.ensures ∙ number_read a.bytes.now a.at
