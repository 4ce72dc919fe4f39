use mathlib.Core.Path.{sym, ap}
use Rattle.known.specs.Known.{missing}
use Rattle.known_store.proofs.missing_by.Goals as goal

pub returns-in-Some : goal.returns-in-Some
returns-in-Some c =
    ap missing (sym c.in-Some.is)
