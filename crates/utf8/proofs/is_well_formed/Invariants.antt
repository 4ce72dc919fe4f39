use mathlib.Core.Path.{◌≡◌}
use lib.ListN.{drop}
use Rattle.utf8.specs.Grammar.{follows, well_formed_text}
use Rattle.utf8.specs.Scan.{due}
use Rattle.utf8.proofs.is_well_formed.Given as goal

-- `utf8::is_well_formed` meets its contract: what is due and what is left are well-formed just if the whole is.
abbrev pub invariant-loop-b : goal.invariant-loop-b
invariant-loop-b l = follows (due l.d) (drop l.b-index l.s) ≡ well_formed_text l.s
