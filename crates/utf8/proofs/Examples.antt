-- The table of texts, computed.
use mathlib.Core.Path.{refl}
use Rattle.utf8.specs.Grammar.{follows}
use Rattle.utf8.specs.Examples.{Examples}

pub examples : Examples
unfolding follows
examples = refl
